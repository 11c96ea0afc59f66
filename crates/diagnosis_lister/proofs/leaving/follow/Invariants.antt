use Rattle.std.proofs.Common.{◌<◌, All}
use Rattle.diagnosis_lister.specs.inner.OpenMarks.{marked_bits}
use Rattle.diagnosis_lister.proofs.Points.{FollowsTo}
use Rattle.diagnosis_lister.proofs.leaving.follow.Given as goal

-- the evidence so far says the point's bits
abbrev pub invariant-loop-part : goal.invariant-loop-part
invariant-loop-part l = record {
  small : All (λ w. w < 3) l.evidence;
  follows : FollowsTo l.fn.evidence (marked_bits l.state) l.evidence l.part;
}
