-- A graph in which every node except the root is needed, and costs something, under evidence.
use Rattle.std.specs.Prelude.{◌≡◌, ℕ, ◌+◌, ◌-◌, ◌<◌, ◌≤◌, false, List, length, All, Contains, IsSomeAnd, slice_index, ⊤}
use Rattle.state_rules.specs.declared.nodes.NodeKind.{NodeKind}
use Rattle.state_rules.specs.declared.nodes.NodeKind.TheVariants.{Literal, And, Or}
use Rattle.state_rules.specs.Graphs.{Node, Graph, node_at}
use Rattle.minimiser.specs.Costs.{least_at}

pub record HasParent (nodes : List Node) (node : ℕ) : Type 0 where
  pub parent : ℕ
  pub within : parent < length nodes
  pub child : Contains (node_at nodes parent).kids node

-- a literal says that an open part is faulty; the first `parts` variables are parts
abbrev pub SaysFaulty : List ℕ → ℕ → NodeKind → Type 0
SaysFaulty evidence parts (Literal positive var) = (positive ≡ false) × (var ≤ parts) × (slice_index evidence (var - 1) ≡ 0)
SaysFaulty evidence parts And = ⊤
SaysFaulty evidence parts Or = ⊤

-- an And node or an Or node has two or more children
abbrev pub Joins : NodeKind → ℕ → Type 0
Joins (Literal positive var) kids = ⊤
Joins And kids = 1 < kids
Joins Or kids = 1 < kids

-- Each node except the root, the last one, costs something, is a child of another and, unless a literal, has two or more children.
-- An Or node costs what each of its children does, so that each of them makes it true at its least cost. There is no wire, no part that is
-- held, and no literal that says ok.
pub record IsSmall (evidence costs : List ℕ) (small : Graph) : Type 0 where
  pub dear : (node : ℕ) → node + 1 < length small.nodes → IsSomeAnd (least_at small evidence costs node) (λ cost. 0 < cost)
  pub needed : (node : ℕ) → node + 1 < length small.nodes → HasParent small.nodes node
  pub joins : (node : ℕ) → node + 1 < length small.nodes → Joins (node_at small.nodes node).what (length (node_at small.nodes node).kids)
  pub cheap : (node : ℕ) → node < length small.nodes → (node_at small.nodes node).what ≡ Or
      → All (λ child. least_at small evidence costs child ≡ least_at small evidence costs node) (node_at small.nodes node).kids
  pub faulty : (node : ℕ) → node < length small.nodes → SaysFaulty evidence (length costs) (node_at small.nodes node).what
