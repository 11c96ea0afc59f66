use Rattle.std.proofs.Common.{◌≡◌, arith}
use Rattle.std.specs.List.{insert}
use Rattle.scratch_pool.specs.Pools.{IsFree, taken}
use Rattle.session_table.specs.inner.Ordered.{IsGapFor}
use Rattle.session_table.proofs.Changes.{closed, took}
use Rattle.session_table.proofs.open_sessions.OpenSessions.start.Goals as goal

pub unwrap_err-place-requires : goal.unwrap_err-place-requires
unwrap_err-place-requires c = closed c.self.inside _ c.self.view_is c.self.invariant _ _ c.deref.ensures.value _ c.find_place.ensures.found c.requires.closed

pub invariant_of-self : goal.invariant_of-self
invariant_of-self c =
    let handed : IsFree c.self.inside.pool c.unwrap-block.result × (c.take.new.self ≡ taken c.self.inside.pool c.unwrap-block.result) = grind arith in
    let items : c.insert.new.self.items ≡ insert c.self.inside.«open».items c.unwrap_err-place.result (record { name = c.args.session.now; block = c.unwrap-block.result }) = grind arith in
    let gap : IsGapFor c.self.inside.«open».items c.unwrap_err-place.result c.args.session.now = grind arith in
    rw (handed.1, items) (took c.self.inside _ c.self.view_is c.self.invariant _ _ _ gap c.take.ensures.sound handed.0 c.requires.room _ c.insert.ensures.capacity)
