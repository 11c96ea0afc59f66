use Rattle.session_core.specs.inner.Desks.{on_desk}
use Rattle.std.proofs.Common.{◌+◌, [], get_or, drop, length, ap, arith}
use Rattle.session_rules.specs.Replies.{probe_lines}
use Rattle.session_core.specs.inner.Desks.{asked_case}
use Rattle.session_core.specs.inner.Telling.{unseen_line}
use Rattle.session_core.proofs.Told.{said_part}
use Rattle.session_core.proofs.Questions.{lines-next}
use Rattle.session_core.proofs.probing.put_probes.Goals as goal

pub returns-in_err-put_unseen-clause-reply : goal.returns-in_err-put_unseen-clause-reply
returns-in_err-put_unseen-clause-reply g c =
    let desk = (on_desk g.E.Engine.about c.args.desk.now) in
    let system = desk.system in
    let s = c.args.session.now in
    let known = asked_case desk in
    let i = c.loop-wire.wire in
    let wires = ap length c.wires.ensures.names in
    said_part _ _ _ _ (unseen_line system s known (get_or system.wires i []) i) (probe_lines system s known (i + 1) (drop (i + 1) system.wires)) _ _ c.from_residual.ensures.0
    (lines-next system s known system.wires i (omega (arith, c.loop-wire-test.true, wires)))
    c.loop-wire.invariant.said c.in_err-put_unseen.ensures.reply
