use Rattle.std.proofs.Common.{◌≡◌, ℕ, ◌-◌, ◌*◌, ◌<◌, Bool, true, length}
use Rattle.state_rules.specs.Assignments.{Assignment}
use Rattle.part_sets.specs.PartSets.{ArePartsOf}
use Rattle.level_lister.specs.inner.FaultSets.{in_first, AreBothSets}
use Rattle.level_lister.proofs.PartVariables.{grown, is_missing}
use Rattle.level_lister.proofs.fault_pass.FaultPass.widen_both.Given as goal

-- the parts before the place are free
abbrev pub invariant-loop-part : goal.invariant-loop-part
invariant-loop-part l = record {
  both : (test : Assignment → Bool) (some more : ℕ → Bool) → ArePartsOf (length l.self.levels.now.costs) some l.own → ArePartsOf (length l.self.levels.now.costs) more l.below
      → ((v : ℕ) → some v ≡ true → more v ≡ true)
      → AreBothSets l.self.evidence.now l.self.levels.now.costs (in_first l.self.evidence.now l.self.levels.now.costs l.self.groups) test some l.fn.all l.fn.faults
      → AreBothSets l.self.evidence.now l.self.levels.now.costs (in_first l.self.evidence.now l.self.levels.now.costs l.self.groups) test (grown some more l.part) l.all l.faults;
  found : l.part < 32 * length l.below → is_missing l.below l.own l.part ≡ true;
}

abbrev pub decreases-loop-part : goal.decreases-loop-part
decreases-loop-part l = l.parts - l.part
