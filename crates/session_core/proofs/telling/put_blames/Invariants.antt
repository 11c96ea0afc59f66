use Rattle.std.proofs.Common.{◌≡◌, drop}
use Rattle.session_core.specs.inner.Telling.{Said, verdict_lines}
use Rattle.session_core.proofs.telling.put_blames.Given as goal

-- the lines up to a part were written, and the others are left
abbrev pub invariant-loop-part : goal.invariant-loop-part
invariant-loop-part g l = record {
  said : Said (g.O.Sink.got l.fn.out) (g.O.Sink.got l.out)
      (verdict_lines l.fn.session (drop l.part l.parts) (drop l.part l.verdicts))
      (verdict_lines l.fn.session l.parts l.verdicts);
  faults : g.O.Sink.faults l.out ≡ g.O.Sink.faults l.fn.out;
}
