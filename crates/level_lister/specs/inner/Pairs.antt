-- What two words say of a node if few costs are listed: its costs, and those at which a part of a group is faulty.
use Rattle.std.specs.Prelude.{◌≡◌, ℕ, ◌+◌, ◌-◌, ◌*◌, ◌/◌, ◌<◌, ◌≤◌, Bool, true, false, ◌&&◌, List, length, slice_index, nat_le, ◌==◌}
use Rattle.state_rules.specs.Assignments.{Assignment}
use Rattle.state_rules.specs.Bits.{bit_in, has_bit}
use Rattle.state_rules.specs.Graphs.{Graph, is_true, mentions}
use Rattle.level_lister.specs.declared.pairs.Pair.{Pair}
use Rattle.level_lister.specs.declared.groups.Groups.{Groups}
use Rattle.node_costs.specs.Costs.{CostOf, Depends, IsRow}
pub use Rattle.level_lister.specs.Passes.{group_count}
use Rattle.level_lister.specs.inner.CostSets.{fault_weights}
use Rattle.level_lister.specs.inner.Skips.{living}
use Rattle.level_lister.specs.inner.Searching.{OfCost}

-- `m` is the sum of a number of `left` and `step` times a number of `right` below `count`
pub record SpreadOf (left right step count m : ℕ) : Type 0 where
  pub first : ℕ
  pub times : ℕ
  pub on_left : has_bit left first ≡ true
  pub few : times < count
  pub on_right : has_bit right times ≡ true
  pub sum_is : first + step * times ≡ m

-- `word` has these sums, as far as they are below 32
pub record IsSpread (left right step count word : ℕ) : Type 0 where
  pub sound : (m : ℕ) → has_bit word m ≡ true → SpreadOf left right step count m
  pub whole : (m j : ℕ) → has_bit left m ≡ true → j < count → has_bit right j ≡ true → m + step * j < 32
      → has_bit word (m + step * j) ≡ true

-- every `step`-th bit of a word, from bit `first` on, says whether a cost up to `top` is one of condition `P`
abbrev pub AreCosts : List ℕ → List ℕ → ℕ → ℕ → ℕ → (ℕ → Bool) → (Assignment → Type 0) → ℕ → Type 0
AreCosts evidence costs top step first some P word =
    IsRow (λ n. has_bit word (step * n + first)) (top + 1) (CostOf (fault_weights evidence costs) some P)

-- a variable that is in the group and among `some` is faulty
pub record HasFault (group some : ℕ → Bool) (a : Assignment) : Type 0 where
  pub var : ℕ
  pub among : some var ≡ true
  pub of_group : group var ≡ true
  pub faulty : a var ≡ false

-- The first word has the costs at which `test` is true, over the variables `some`; the second one those at which a part of a group is
-- faulty too, for each group. The test depends on these variables alone.
pub record Tells (evidence costs : List ℕ) (top step : ℕ) (group : ℕ → ℕ → Bool) (test : Assignment → Bool) (some : ℕ → Bool) (pair : Pair) : Type 0 where
  pub cost_bits : AreCosts evidence costs top 1 0 some (λ a. test a ≡ true) pair.costs
  pub fault_bits : (g : ℕ) → g < step → AreCosts evidence costs top step g some (λ a. (test a ≡ true) × HasFault (group g) some a) pair.faults
  pub local : Depends some test

-- the variables of the open parts of a group
abbrev pub group_in : List ℕ → ℕ → Groups → ℕ → ℕ → Bool
group_in evidence parts groups g v =
    (nat_le (groups.low + 1) v && nat_le v parts) && ((slice_index evidence (v - 1) == 0) && ((v - 1 - groups.low) / groups.size == g))

-- what is said of a node, if some nodes are skipped
abbrev pub TellsNode : Graph → List ℕ → List ℕ → List ℕ → ℕ → Groups → ℕ → Pair → Type 0
TellsNode graph skips evidence costs top groups k pair =
    Tells evidence costs top (group_count top) (group_in evidence (length costs) groups) (λ a. is_true (living graph.nodes skips) k a) (λ v. mentions graph.nodes v k) pair

-- the two words of a node
abbrev pub pair_at : List ℕ → ℕ → Pair
pair_at values k = record { costs = slice_index values (2 * k); faults = slice_index values (2 * k + 1) }

-- the same for the first `n` nodes
abbrev pub TellNodes : Graph → List ℕ → List ℕ → List ℕ → ℕ → Groups → List ℕ → ℕ → Type 0
TellNodes graph skips evidence costs top groups values n = (k : ℕ) → k < n → TellsNode graph skips evidence costs top groups k (pair_at values k)

-- what is said of the last node, over all parts
abbrev pub TellsWhole : Graph → List ℕ → List ℕ → List ℕ → ℕ → Groups → Pair → Type 0
TellsWhole graph skips evidence costs top groups pair =
    Tells evidence costs top (group_count top) (group_in evidence (length costs) groups) (λ a. is_true (living graph.nodes skips) (length graph.nodes - 1) a) (λ v. true) pair

-- an open part of group `g` is faulty in some state of cost `c`
pub record FaultOf (graph : Graph) (evidence costs : List ℕ) (c : ℕ) (groups : Groups) (g : ℕ) : Type 0 where
  pub state : List Bool
  pub is : OfCost graph evidence costs c state
  pub part : ℕ
  pub within : part < length costs
  pub open_ : slice_index evidence part ≡ 0
  pub faulty : bit_in state part ≡ false
  pub low : groups.low ≤ part
  pub group : (part - groups.low) / groups.size ≡ g

-- the open part `part` is faulty in some state of cost `c`
pub record FaultIn (graph : Graph) (evidence costs : List ℕ) (c part : ℕ) : Type 0 where
  pub within : part < length costs
  pub open_ : slice_index evidence part ≡ 0
  pub state : List Bool
  pub is : OfCost graph evidence costs c state
  pub faulty : bit_in state part ≡ false

-- the open parts from `from` to before `to` are ok in all states of cost `c`
abbrev pub OkAmong : Graph → List ℕ → List ℕ → ℕ → ℕ → ℕ → Type 0
OkAmong graph evidence costs c from to =
    (part : ℕ) → from ≤ part → part < to → part < length costs → slice_index evidence part ≡ 0 → (h : List Bool) → OfCost graph evidence costs c h → bit_in h part ≡ true
