use Rattle.session_core.specs.inner.Desks.{on_desk}
use Rattle.session_core.specs.Services.{shown_by}
use Rattle.std.proofs.Common.{ap, ◌≡◌, true, false, subst, sym, arith}
use Rattle.session_rules.specs.declared.refusal.Refusal.TheVariants.{NoLevels}
use Rattle.session_core.specs.Services.{Shown}
use Rattle.engines.specs.Answers.{is_listed}
use Rattle.session_core.specs.inner.Holding.{shown_of}
use Rattle.session_core.specs.inner.Obeying.{Obeys, IsOpen, list_request}
use Rattle.session_core.proofs.SessionMoves.{obeys_list}
use Rattle.session_core.proofs.OneMove.{obeys_refusal}
use Rattle.session_core.proofs.sessions.Sessions.list.Goals as goal

pub returns-then-not-lists-clause-obeys : goal.returns-then-not-lists-clause-obeys
returns-then-not-lists-clause-obeys g c =
    let old = (shown_by g.E.Engine.about c.args.self.now) in
    let s = c.args.session.name.now in
    let there = c.requires in
    let off : is_listed old.system c.args.listed ≡ false = grind arith in
    obeys_refusal old s (list_request c.args.listed c.args.count) _ _ _ NoLevels
    (grind arith) c.put_refusal.ensures.text

pub returns-clause-obeys : goal.returns-clause-obeys
returns-clause-obeys g c =
    let old = shown_of (on_desk g.E.Engine.about c.self.inside.desk).system c.self.inside.open in
    let new = shown_of (on_desk g.E.Engine.about c.move_so_far.new.desk).system c.move_so_far.new.opened in
    let s = c.args.session.name.now in
    let there = subst (λ (v : Shown). IsOpen v.table c.args.session) (sym (ap (shown_by g.E.Engine.about) c.self.view_is)) c.requires in
    let on : is_listed old.system c.args.listed ≡ true = grind arith in
    subst (λ (v : Shown). Obeys v new s (list_request c.args.listed c.args.count) (g.O.Sink.got c.args.out.now) (g.O.Sink.got c.move_so_far.new.out) c.move_so_far.result) (ap (shown_by g.E.Engine.about) c.self.view_is)
    (obeys_list old new c.args.listed c.args.session.place s there.entry c.args.count _ _ c.move_so_far.result on there.stands
    (c.move_so_far.ensures.moves there.entry there.stands) c.move_so_far.ensures.stays)
