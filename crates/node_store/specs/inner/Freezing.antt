-- The nodes below a root, and their copies.
use Rattle.std.specs.Prelude.{◌≡◌, ℕ, ◌+◌, ◌<◌, ◌≤◌, ◌⊎◌, Bool, true, List, length, map, take, slice_get, slice_index, Some, All, Contains}
use Rattle.state_rules.specs.Bits.{bit_in}
use Rattle.state_rules.specs.Assignments.{Assignment}
use Rattle.state_rules.specs.Graphs.{Node, is_true, mentions, AreNodes, edges}

-- children come before their parents
abbrev pub AreBefore : List Node → Type 0
AreBefore nodes = (i : ℕ) (node : Node) → slice_get nodes i ≡ Some node → All (λ k. k < i) node.kids

-- from `from` on, the children of marked nodes are marked
abbrev pub IsClosedFrom : ℕ → List Node → List Bool → Type 0
IsClosedFrom from nodes marks = (i : ℕ) (node : Node) → from ≤ i → bit_in marks i ≡ true → slice_get nodes i ≡ Some node → All (λ k. bit_in marks k ≡ true) node.kids

abbrev pub IsClosed : List Node → List Bool → Type 0
IsClosed nodes marks = IsClosedFrom 0 nodes marks

-- a node is a child of a marked one
abbrev pub IsChildOfMarked : List Node → List Bool → ℕ → Type 0
IsChildOfMarked nodes marks i = (j : ℕ) × (node : Node) × (bit_in marks j ≡ true) × (slice_get nodes j ≡ Some node) × Contains node.kids i

-- the root and the children of marked nodes are marked, and nothing else is
pub record IsBelow (nodes : List Node) (root : ℕ) (marks : List Bool) : Type 0 where
  pub long : length marks ≡ root + 1
  pub has : bit_in marks root ≡ true
  pub closed : IsClosed nodes marks
  pub only : (i : ℕ) → bit_in marks i ≡ true → (i ≡ root) ⊎ IsChildOfMarked nodes marks i

-- the children of node `at` become marked if it is, and no other node does
pub record Marks (old : List Bool) (at : ℕ) (kids : List ℕ) (new : List Bool) : Type 0 where
  pub kept : (i : ℕ) → bit_in old i ≡ true → bit_in new i ≡ true
  pub above : (i : ℕ) → at ≤ i → bit_in new i ≡ bit_in old i
  pub marked : bit_in old at ≡ true → All (λ k. bit_in new k ≡ true) kids
  pub only : (i : ℕ) → bit_in new i ≡ true → (bit_in old i ≡ true) ⊎ ((bit_in old at ≡ true) × Contains kids i)

-- node `number` of `copies` means what node `k` of `nodes` does
pub record IsCopy (nodes : List Node) (k : ℕ) (copies : List Node) (number : ℕ) : Type 0 where
  pub within : number < length copies
  pub truth : (a : Assignment) → is_true copies number a ≡ is_true nodes k a
  pub variables : (v : ℕ) → mentions copies v number ≡ mentions nodes v k

-- the marked nodes of the first `count` are copied, and `numbers` are the numbers of the copies
pub record IsCopied (vars : ℕ) (nodes : List Node) (marks : List Bool) (copies : List Node) (numbers : List ℕ) (count : ℕ) : Type 0 where
  pub long : length numbers ≡ count
  pub are : AreNodes vars copies
  pub few : length copies ≤ count
  pub few_edges : edges copies ≤ edges (take count nodes)
  pub same : (k : ℕ) → k < count → bit_in marks k ≡ true → IsCopy nodes k copies (slice_index numbers k)
  pub copy : (k : ℕ) (node : Node) → k < count → bit_in marks k ≡ true → slice_get nodes k ≡ Some node
      → slice_get copies (slice_index numbers k) ≡ Some (record { what = node.what; kids = map (slice_index numbers) node.kids })
  pub origin : (n : ℕ) → n < length copies → (k : ℕ) × (k < count) × (bit_in marks k ≡ true) × (slice_index numbers k ≡ n)
  pub rising : (k l : ℕ) → k < l → l < count → bit_in marks k ≡ true → bit_in marks l ≡ true → slice_index numbers k < slice_index numbers l
  pub last : (k : ℕ) → k + 1 ≡ count → bit_in marks k ≡ true → slice_index numbers k + 1 ≡ length copies
