use Rattle.std.proofs.Common.{◌≡◌, ℕ, ◌<◌, false, get_or}
use Rattle.part_sets.specs.Numbers.{has_number, set_at}
use Rattle.level_lister.specs.Listing.{cost_words}
use Rattle.level_lister.proofs.fault_pass.FaultPass.has_faulty_child.Given as goal

-- the sets of the children before the place are empty
abbrev pub invariant-loop-child : goal.invariant-loop-child
invariant-loop-child l = (j n : ℕ) → j < l.child-index → has_number (set_at l.earlier (get_or l.child-items j 0) (cost_words l.self.levels.now.top)) n ≡ false
