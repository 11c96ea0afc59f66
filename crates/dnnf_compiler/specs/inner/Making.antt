-- The maker of nodes, and what it adds.
use Rattle.std.specs.Prelude.{◌≡◌, ℕ, ◌+◌, ◌<◌, ◌≤◌, Bool, true, false, ◌||◌, List, length, Option, Some, None, slice_get}
use Rattle.state_rules.specs.Assignments.{Assignment}
use Rattle.state_rules.specs.Graphs.{Node, true_node, is_true, mentions, false_node}
use Rattle.node_store.specs.Stores.{IsStore, HasNoBareChild}
use Rattle.dnnf_compiler.specs.declared.maker.Maker.{Maker}
use Rattle.dnnf_compiler.specs.inner.Joining.{Grows, IsConstant}

-- what always holds of a maker
pub record IsMaker (m : Maker) : Type 0 where
  pub store : IsStore m.store
  pub yes : IsConstant m.store.nodes true m.yes
  pub no : IsConstant m.store.nodes false m.no
  pub yes_node : slice_get m.store.nodes m.yes ≡ Some true_node
  pub no_node : slice_get m.store.nodes m.no ≡ Some false_node
  pub bare : HasNoBareChild m.store.nodes

-- a variable is in range
abbrev pub IsVariable : Maker → ℕ → Type 0
IsVariable m var = (1 ≤ var) × (var ≤ m.store.vars)

-- Nodes are added, and at most `more` are made over at most `kids` children.
pub record Adds (old new : Maker) (more kids : ℕ) : Type 0 where
  pub maker : IsMaker new
  pub grows : Grows old.store.nodes new.store.nodes
  pub vars : new.store.vars ≡ old.store.vars
  pub yes : new.yes ≡ old.yes
  pub made : new.store.made ≤ old.store.made + more
  pub handed : new.store.handed ≤ old.store.handed + kids

-- whether a node is true, and whether it mentions a variable: neither, if there is no node
abbrev pub may_be_true : List Node → Assignment → Option ℕ → Bool
may_be_true nodes a None = false
may_be_true nodes a (Some node) = is_true nodes node a

abbrev pub may_mention : List Node → ℕ → Option ℕ → Bool
may_mention nodes v None = false
may_mention nodes v (Some node) = mentions nodes v node

pub record IsJoin (old new : Maker) (zero one : Option ℕ) (node : ℕ) : Type 0 where
  pub adds : Adds old new 1 2
  pub within : node < length new.store.nodes
  pub truth : (a : Assignment) → is_true new.store.nodes node a ≡ (may_be_true old.store.nodes a zero || may_be_true old.store.nodes a one)
  pub variables : (v : ℕ) → may_mention old.store.nodes v zero ≡ false → may_mention old.store.nodes v one ≡ false → mentions new.store.nodes v node ≡ false
