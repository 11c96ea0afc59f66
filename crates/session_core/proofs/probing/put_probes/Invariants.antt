use Rattle.session_core.specs.inner.Desks.{on_desk}
use Rattle.std.proofs.Common.{◌≡◌, drop}
use Rattle.session_rules.specs.Replies.{probe_lines}
use Rattle.session_core.specs.inner.Desks.{asked_case}
use Rattle.session_core.specs.inner.Telling.{Said}
use Rattle.session_core.proofs.probing.put_probes.Given as goal

-- the lines up to a wire were written, and the others are left
abbrev pub invariant-loop-wire : goal.invariant-loop-wire
invariant-loop-wire g l =
    let system = (on_desk g.E.Engine.about l.desk).system in
    let known = asked_case (on_desk g.E.Engine.about l.desk) in
    record {
      said : Said (g.O.Sink.got l.fn.out) (g.O.Sink.got l.out)
          (probe_lines system l.session known l.wire (drop l.wire system.wires))
          (probe_lines system l.session known 0 system.wires);
      faults : g.O.Sink.faults l.out ≡ g.O.Sink.faults l.fn.out;
    }
