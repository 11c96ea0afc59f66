-- Shared nodes: what a store holds and counts, and what one more node adds.
use Rattle.std.specs.Prelude.{◌≡◌, ℕ, zero, suc, ◌+◌, ◌-◌, ◌*◌, ◌<◌, ◌≤◌, Bool, true, false, List, [], ◌∷◌, ◌++◌, map, length, slice_get, Some, Contains, ◌==◌, ◌⊎◌, if◌then◌else◌}
use Rattle.state_rules.specs.Assignments.{Assignment}
use Rattle.state_rules.specs.declared.nodes.TheConstants.{CHILD_LIMIT}
use Rattle.state_rules.specs.declared.nodes.NodeKind.{NodeKind}
use Rattle.state_rules.specs.declared.nodes.NodeKind.TheVariants.{Literal, And, Or}
use Rattle.state_rules.specs.Graphs.{Node, Graph, literal_node, truth_by, is_true, mention_by, mentions, AreNodes, edges}
use Rattle.node_store.specs.declared.store.TheConstants.{MADE_LIMIT, VARIABLE_LIMIT}

-- The nodes, whose numbers are their places; how often a node was made; and how many children were handed in for all of these.
pub record Stored : Type 0 where
  pub nodes : List Node
  pub vars : ℕ
  pub made : ℕ
  pub handed : ℕ

-- the two literal nodes of each variable, the positive one first
abbrev pub literals : ℕ → List Node
literals zero = []
literals (suc n) = literals n ++ (literal_node (n + 1) true ∷ literal_node (n + 1) false ∷ [])

-- the number of a literal node
abbrev pub literal_place : ℕ → Bool → ℕ
literal_place var positive = 2 * (var - 1) + (if positive then 0 else 1)

-- no two nodes have the same kind and children
abbrev pub EachOnce : List Node → Type 0
EachOnce nodes = (i j : ℕ) (node : Node) → slice_get nodes i ≡ Some node → slice_get nodes j ≡ Some node → i ≡ j

-- what holds of every store
pub record IsStore (store : Stored) : Type 0 where
  pub nodes : AreNodes store.vars store.nodes
  pub once : EachOnce store.nodes
  pub literals : (v : ℕ) (positive : Bool) → 1 ≤ v → v ≤ store.vars → slice_get store.nodes (literal_place v positive) ≡ Some (literal_node v positive)
  pub few : length store.nodes ≤ store.made + 2 * store.vars
  pub few_edges : edges store.nodes ≤ store.handed
  pub few_made : store.made ≤ MADE_LIMIT
  pub few_handed : store.handed ≤ store.made * CHILD_LIMIT
  pub few_vars : store.vars < VARIABLE_LIMIT

-- the nodes stay, and this one may be added after them
abbrev pub AddsAtMost : List Node → Node → List Node → Type 0
AddsAtMost old node new = (new ≡ old) ⊎ (new ≡ old ++ node ∷ [])

-- A node was made, or an equal one taken. Its number is its place, all earlier nodes stay, and the counts rise in either case.
pub record Makes (old new : Stored) (kind : NodeKind) (kids : List ℕ) (number : ℕ) : Type 0 where
  pub there : slice_get new.nodes number ≡ Some (record { what = kind; kids = kids })
  pub nodes : AddsAtMost old.nodes (record { what = kind; kids = kids }) new.nodes
  pub vars : new.vars ≡ old.vars
  pub made : new.made ≡ old.made + 1
  pub handed : new.handed ≡ old.handed + length kids

-- The truth and the variables of the node follow from its kind and its children. Earlier nodes keep their meaning.
pub record Means (old new : List Node) (kind : NodeKind) (kids : List ℕ) (number : ℕ) : Type 0 where
  pub truth : (a : Assignment) → is_true new number a ≡ truth_by a kind (map (λ k. is_true old k a) kids)
  pub variables : (v : ℕ) → mentions new v number ≡ mention_by v kind (map (mentions old v) kids)
  pub true_before : (k : ℕ) (a : Assignment) → k < length old → is_true new k a ≡ is_true old k a
  pub variables_before : (k v : ℕ) → k < length old → mentions new v k ≡ mentions old v k

-- a node is a child of another
abbrev pub IsUsed : List Node → ℕ → Type 0
IsUsed nodes number = (parent : ℕ) × (node : Node) × (slice_get nodes parent ≡ Some node) × Contains node.kids number

-- whether this is an And node or an Or node without children, a constant
abbrev pub is_bare : NodeKind → List ℕ → Bool
is_bare (Literal positive var) kids = false
is_bare And kids = length kids == 0
is_bare Or kids = length kids == 0

-- no constant is a child
abbrev pub HasNoBareChild : List Node → Type 0
HasNoBareChild nodes = (parent number : ℕ) (node child : Node) → slice_get nodes parent ≡ Some node → Contains node.kids number
    → slice_get nodes number ≡ Some child → is_bare child.what child.kids ≡ false

-- The graph of a node and the nodes below it. Its root is true exactly if the node is.
pub record IsFrozen (store : Stored) (root : ℕ) (graph : Graph) : Type 0 where
  pub vars : graph.vars ≡ store.vars
  pub truth : (a : Assignment) → is_true graph.nodes (length graph.nodes - 1) a ≡ is_true store.nodes root a
  pub few : length graph.nodes ≤ store.made + 2 * store.vars
  pub few_edges : edges graph.nodes ≤ store.handed
  -- Each node is a copy of one in the store, over copies of its children, and the root is the copy of `root`. The order is the same.
  pub origin : ℕ → ℕ
  pub copied : (number : ℕ) (node : Node) → slice_get graph.nodes number ≡ Some node
      → slice_get store.nodes (origin number) ≡ Some (record { what = node.what; kids = map origin node.kids })
  pub root_last : origin (length graph.nodes - 1) ≡ root
  pub in_order : (first second : ℕ) → first < second → second < length graph.nodes → origin first < origin second
  -- Each node except the root is a child of another, and no two are equal.
  pub used : (number : ℕ) → number + 1 < length graph.nodes → IsUsed graph.nodes number
  pub once : EachOnce graph.nodes
  -- If no constant is a child in the store, none is in the graph.
  pub no_bare_child : HasNoBareChild store.nodes → HasNoBareChild graph.nodes
