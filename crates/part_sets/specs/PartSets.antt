-- Sets of parts: those below each node of a graph, and whether the children of a node lack one.
use Rattle.std.specs.Prelude.{◌≡◌, ◌↔◌, ℕ, ◌+◌, ◌-◌, ◌*◌, ◌<◌, ◌≤◌, Bool, true, ◌&&◌, List, length, slice_index, nat_lt}
use Rattle.state_rules.specs.declared.nodes.NodeKind.TheVariants.{Or}
use Rattle.state_rules.specs.Graphs.{Graph, node_at, mentions}
use Rattle.part_sets.specs.Numbers.{has_number, part_words, set_at}

-- the set of the parts whose variables are in `some`; parts are counted from 0
abbrev pub ArePartsOf : ℕ → (ℕ → Bool) → List ℕ → Type 0
ArePartsOf parts some set = (p : ℕ) → has_number set p ≡ (nat_lt p parts && some (p + 1))

-- the sets of the parts below the first `n` nodes
abbrev pub ArePartsBelow : Graph → ℕ → List ℕ → ℕ → Type 0
ArePartsBelow graph parts below n =
    (k : ℕ) → k < n → ArePartsOf parts (λ v. mentions graph.nodes v k) (set_at below k (part_words parts))

-- and after those of all nodes the set of all parts
pub record AreBelow (graph : Graph) (parts : ℕ) (below : List ℕ) : Type 0 where
  pub long : length below ≡ (length graph.nodes + 1) * part_words parts
  pub nodes : ArePartsBelow graph parts below (length graph.nodes)
  pub all : ArePartsOf parts (λ v. true) (set_at below (length graph.nodes) (part_words parts))

-- all children of a node have the same parts below them as the node
abbrev pub SameBelow : Graph → ℕ → ℕ → Type 0
SameBelow graph parts k =
    (j v : ℕ) → j < length (node_at graph.nodes k).kids → 1 ≤ v → v ≤ parts
    → mentions graph.nodes v (slice_index (node_at graph.nodes k).kids j) ≡ mentions graph.nodes v k

-- a node is no Or node, or its children lack none of its parts
abbrev pub LacksNone : Graph → ℕ → ℕ → Type 0
LacksNone graph parts k = (node_at graph.nodes k).what ≡ Or → SameBelow graph parts k

-- The word of a node is 0 exactly if this is so, and the word after those of all nodes if the root lacks no part at all.
pub record AreLacking (graph : Graph) (parts : ℕ) (lacking : List ℕ) : Type 0 where
  pub long : length lacking ≡ length graph.nodes + 1
  pub nodes : (k : ℕ) → k < length graph.nodes → (slice_index lacking k ≡ 0) ↔ LacksNone graph parts k
  pub all : (slice_index lacking (length graph.nodes) ≡ 0)
      ↔ ((v : ℕ) → 1 ≤ v → v ≤ parts → mentions graph.nodes v (length graph.nodes - 1) ≡ true)

-- what is kept of a graph: the sets of the parts below its nodes and of all parts, and a word for each node and for all parts
pub record Kept : Type 0 where
  pub below : List ℕ
  pub lacking : List ℕ

-- `kept` is that of this graph, whose first `parts` variables are parts
pub record AreFor (graph : Graph) (parts : ℕ) (kept : Kept) : Type 0 where
  pub below : AreBelow graph parts kept.below
  pub lacking : AreLacking graph parts kept.lacking
