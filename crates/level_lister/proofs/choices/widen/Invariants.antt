use Rattle.std.proofs.Common.{◌≡◌, ℕ, ◌-◌, ◌*◌, ◌<◌, Bool, true, not, ◌&&◌, length}
use Rattle.state_rules.specs.Assignments.{Assignment}
use Rattle.part_sets.specs.Numbers.{has_number}
use Rattle.part_sets.specs.PartSets.{ArePartsOf}
use Rattle.level_lister.specs.inner.CostSets.{IsCostSet}
use Rattle.level_lister.proofs.PartVariables.{grown}
use Rattle.level_lister.proofs.choices.widen.Given as goal

-- the parts before the place are free
abbrev pub invariant-loop-part : goal.invariant-loop-part
invariant-loop-part l = record {
  set : (test : Assignment → Bool) (some more : ℕ → Bool) → ArePartsOf (length l.costs) some l.inner → ArePartsOf (length l.costs) more l.outer
      → ((v : ℕ) → some v ≡ true → more v ≡ true) → IsCostSet l.evidence l.costs test some l.initial.set → IsCostSet l.evidence l.costs test (grown some more l.part) l.set;
  found : l.part < 32 * length l.outer → (has_number l.outer l.part && not (has_number l.inner l.part)) ≡ true;
}

abbrev pub decreases-loop-part : goal.decreases-loop-part
decreases-loop-part l = length l.costs - l.part
