use Rattle.std.proofs.Common.{◌≡◌, length, Some, subst, arith}
use Rattle.conditioner.specs.Evidence.{bits_of}
use Rattle.scratch_pool.specs.Pools.{block_words, with_block}
use Rattle.session_rules.specs.Sessions.{Entry}
use Rattle.session_table.specs.Tables.{StandsAt}
use Rattle.session_table.specs.inner.Blocks.{entry_in}
use Rattle.session_table.specs.inner.Ordered.{table_of}
use Rattle.session_table.proofs.Changes.{entry_here, stands_written}
use Rattle.session_table.proofs.open_sessions.OpenSessions.set_point.Goals as goal

pub returns-clause-stands : goal.returns-clause-stands
returns-clause-stands c = λ name entry stands.
    let long : length c.set_point.new.block ≡ length (block_words c.self.inside.pool c.index.result.now.block) = grind arith in
    let is : entry_in c.self.inside.layout c.set_point.new.block ≡ record entry { point = Some (bits_of c.args.state.now) } = grind (arith, entry_here) in
    subst (λ (e : Entry). StandsAt (table_of c.self.inside.layout (with_block c.self.inside.pool c.index.result.now.block c.set_point.new.block) c.self.inside.«open».items) c.args.place name e) is
    (stands_written c.self.inside _ c.self.view_is c.self.invariant _ _ c.requires.place c.index.ensures _ c.words_mut.ensures.sound long c.set_point.ensures.block name entry stands)
