use Rattle.std.proofs.Common.{◌<◌, All}
use Rattle.conditioner.specs.Evidence.{bits_of}
use Rattle.diagnosis_lister.proofs.Points.{FollowsTo}
use Rattle.level_lister.proofs.states.follow.Given as goal

-- the evidence so far says the point's bits
abbrev pub invariant-loop-part : goal.invariant-loop-part
invariant-loop-part l = record {
  small : All (λ w. w < 3) l.evidence;
  follows : FollowsTo l.fn.evidence (bits_of l.state) l.evidence l.part;
}
