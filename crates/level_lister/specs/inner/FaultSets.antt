-- The sets of costs at which, besides, an open part of a group is faulty.
use Rattle.std.specs.Prelude.{◌≡◌, ℕ, ◌-◌, ◌*◌, ◌<◌, Bool, true, List, length}
use Rattle.state_rules.specs.Assignments.{Assignment}
use Rattle.state_rules.specs.Graphs.{Graph, is_true, mentions}
use Rattle.node_costs.specs.Costs.{CostOf, IsRow}
use Rattle.part_sets.specs.Numbers.{has_number, set_at}
use Rattle.level_lister.specs.declared.groups.Groups.{Groups}
use Rattle.level_lister.specs.inner.CostSets.{fault_weights, IsCostSet}
use Rattle.level_lister.specs.inner.Skips.{living}
use Rattle.level_lister.specs.inner.Pairs.{HasFault, group_in}

-- the set has exactly the costs of condition `P`, as far as it has room
abbrev pub AreCostsOf : List ℕ → List ℕ → (ℕ → Bool) → (Assignment → Type 0) → List ℕ → Type 0
AreCostsOf evidence costs some P set = IsRow (has_number set) (32 * length set) (CostOf (fault_weights evidence costs) some P)

-- the set has the costs at which `test` is true and a part of the group is faulty
abbrev pub IsFaultSet : List ℕ → List ℕ → (ℕ → Bool) → (Assignment → Bool) → (ℕ → Bool) → List ℕ → Type 0
IsFaultSet evidence costs group test some set = AreCostsOf evidence costs some (λ a. (test a ≡ true) × HasFault group some a) set

-- the variables of the open parts of the first group
abbrev pub in_first : List ℕ → List ℕ → Groups → ℕ → Bool
in_first evidence costs groups v = group_in evidence (length costs) groups 0 v

-- both sets of a test over the variables `some`: its costs, and those with a fault
pub record AreBothSets (evidence costs : List ℕ) (group : ℕ → Bool) (test : Assignment → Bool) (some : ℕ → Bool) (set faults : List ℕ) : Type 0 where
  pub all : IsCostSet evidence costs test some set
  pub faulty : IsFaultSet evidence costs group test some faults

-- the costs at which a node can be true, if some are skipped, with a faulty open part of the first group below it
abbrev pub IsNodeFaults : Graph → List ℕ → List ℕ → List ℕ → Groups → ℕ → List ℕ → Type 0
IsNodeFaults graph skips evidence costs groups k set =
    IsFaultSet evidence costs (in_first evidence costs groups) (λ a. is_true (living graph.nodes skips) k a) (λ v. mentions graph.nodes v k) set

-- the same for the first `n` nodes
abbrev pub AreNodeFaults : Graph → List ℕ → List ℕ → List ℕ → Groups → ℕ → List ℕ → ℕ → Type 0
AreNodeFaults graph skips evidence costs groups size sets n = (k : ℕ) → k < n → IsNodeFaults graph skips evidence costs groups k (set_at sets k size)

-- the costs at which the last node can be true with any faulty open part of the first group
abbrev pub IsWholeFaults : Graph → List ℕ → List ℕ → List ℕ → Groups → List ℕ → Type 0
IsWholeFaults graph skips evidence costs groups set =
    IsFaultSet evidence costs (in_first evidence costs groups) (λ a. is_true (living graph.nodes skips) (length graph.nodes - 1) a) (λ v. true) set
