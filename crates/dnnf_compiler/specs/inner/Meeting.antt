-- Conjunctions of a literal and several nodes below.
use Rattle.std.specs.Prelude.{◌≡◌, ◌≢◌, ℕ, ◌+◌, ◌*◌, ◌<◌, ◌≤◌, Bool, true, false, ◌&&◌, All, List, [], ◌∷◌, map, length, Option, Some, None, IfSome, slice_get, slice_index, Vec, ◌==◌}
use Rattle.std.specs.declared.alloc.Global.{Global}
use Rattle.std.specs.List.{list_any, list_all, AllByRecursion, AllZip}
use Rattle.state_rules.specs.Bits.{same_bit}
use Rattle.state_rules.specs.Assignments.{Assignment}
use Rattle.state_rules.specs.Graphs.{Node, at_most_one, is_true, mentions}
use Rattle.node_store.specs.declared.store.TheConstants.{MADE_LIMIT}
use Rattle.branch_states.specs.declared.measuring.TheConstants.{BUDGET_LIMIT}
use Rattle.elimination_forests.specs.declared.forks.Forks.{Forks}
use Rattle.dnnf_compiler.specs.declared.maker.Maker.{Maker}
use Rattle.dnnf_compiler.specs.inner.Making.{IsMaker, IsVariable, Adds, may_be_true, may_mention}

-- each variable is mentioned by at most one of these nodes
abbrev pub AreApart : List Node → List ℕ → Type 0
AreApart nodes kids = (v : ℕ) → at_most_one (map (mentions nodes v) kids) ≡ true

-- The conjunction of these nodes may be made.
pub record AreMeetable (m : Maker) (kids : List ℕ) : Type 0 where
  pub maker : IsMaker m
  pub within : All (λ k. k < length m.store.nodes) kids
  pub apart : AreApart m.store.nodes kids
  pub few_children : length kids ≤ BUDGET_LIMIT + 1
  pub few : m.store.made < MADE_LIMIT

-- The node is true exactly if all of these are, and mentions no more than they do. It is `no`, or mentions all.
pub record IsMeet (old new : Maker) (kids : List ℕ) (node : ℕ) : Type 0 where
  pub adds : Adds old new 1 (length kids)
  pub within : node < length new.store.nodes
  pub truth : (a : Assignment) → is_true new.store.nodes node a ≡ list_all (λ k. is_true old.store.nodes k a) kids
  pub silent : (v : ℕ) → list_any (mentions old.store.nodes v) kids ≡ false → mentions new.store.nodes v node ≡ false
  pub alone : length kids ≤ 1 → Adds old new 0 0
  pub names : node ≢ new.no → (v : ℕ) → list_any (mentions old.store.nodes v) kids ≡ true → mentions new.store.nodes v node ≡ true

-- ---- a way

-- the nodes that have these numbers, one of each level
abbrev pub taken : List (Vec ℕ Global) → List ℕ → List ℕ
taken [] numbers = []
taken (level ∷ levels) [] = []
taken (level ∷ levels) (n ∷ numbers) = slice_index level.items n ∷ taken levels numbers

-- each number is one of its level
abbrev pub AreHeld : List (Vec ℕ Global) → List ℕ → Type 0
AreHeld levels numbers = AllZip (λ level n. n < length level.items) levels numbers

-- These nodes are there, share no variable, and do not mention this one.
pub record IsUsable (nodes : List Node) (var : ℕ) (below : List (Vec ℕ Global)) (numbers : List ℕ) : Type 0 where
  pub held : AreHeld below numbers
  pub few : length numbers ≤ BUDGET_LIMIT
  pub within : AllByRecursion (λ k. k < length nodes) (taken below numbers)
  pub apart : AreApart nodes (taken below numbers)
  pub free : list_any (mentions nodes var) (taken below numbers) ≡ false

-- whether all nodes to which a way leads are true
abbrev pub way_true : List Node → Assignment → List (Vec ℕ Global) → Option (List ℕ) → Bool
way_true nodes a below None = false
way_true nodes a below (Some numbers) = list_all (λ k. is_true nodes k a) (taken below numbers)

-- whether one of them mentions a variable
abbrev pub way_mentions : List Node → ℕ → List (Vec ℕ Global) → Option (List ℕ) → Bool
way_mentions nodes v below None = false
way_mentions nodes v below (Some numbers) = list_any (mentions nodes v) (taken below numbers)

-- the way by a bit
abbrev pub bit_way : Option (List ℕ) → Option (List ℕ) → Bool → Option (List ℕ)
bit_way zero one false = zero
bit_way zero one true = one

-- The node is true exactly if the variable's bit leads to nodes that are all true.
pub record IsChoice (old new : List Node) (var : ℕ) (below : List (Vec ℕ Global)) (zero one : Option (List ℕ)) (node : ℕ) : Type 0 where
  pub within : node < length new
  pub truth : (a : Assignment) → is_true new node a ≡ way_true old a below (bit_way zero one (a var))
  pub silent : (v : ℕ) → (var == v) ≡ false → way_mentions old v below zero ≡ false → way_mentions old v below one ≡ false → mentions new v node ≡ false

pub record IsChosen (old new : Maker) (var : ℕ) (below : List (Vec ℕ Global)) (zero one : Option (List ℕ)) (node : ℕ) : Type 0 where
  pub adds : Adds old new 3 (4 + 2 * length below)
  pub right : IsChoice old.store.nodes new.store.nodes var below zero one node

-- Nodes may be made of both ways of each list of a place.
pub record IsPlaceable (m : Maker) (var : ℕ) (below : List (Vec ℕ Global)) (forks : Forks) : Type 0 where
  pub maker : IsMaker m
  pub variable : IsVariable m var
  pub long : length forks.one.ways ≡ length forks.zero.ways
  pub zeros : All (λ way. IfSome way (IsUsable m.store.nodes var below)) forks.zero.ways
  pub ones : All (λ way. IfSome way (IsUsable m.store.nodes var below)) forks.one.ways
  pub few : m.store.made + 3 * length forks.zero.ways ≤ MADE_LIMIT

-- each list has its node
pub record AreChoices (old new : Maker) (var : ℕ) (below : List (Vec ℕ Global)) (forks : Forks) (nodes : List ℕ) : Type 0 where
  pub adds : Adds old new (3 * length nodes) ((4 + 2 * length below) * length nodes)
  pub long : length nodes ≡ length forks.zero.ways
  pub right : (j : ℕ) (zero one : Option (List ℕ)) (n : ℕ) → slice_get forks.zero.ways j ≡ Some zero → slice_get forks.one.ways j ≡ Some one → slice_get nodes j ≡ Some n
      → IsChoice old.store.nodes new.store.nodes var below zero one n

pub record IsTaken (old new : Maker) (var : ℕ) (bit : Bool) (below : List (Vec ℕ Global)) (way : Option (List ℕ)) (node : Option ℕ) : Type 0 where
  pub adds : Adds old new 1 (1 + length below)
  pub within : IfSome node (λ n. n < length new.store.nodes)
  pub names : IfSome node (λ n. mentions new.store.nodes var n ≡ true)
  pub truth : (a : Assignment) → may_be_true new.store.nodes a node ≡ (same_bit bit (a var) && way_true old.store.nodes a below way)
  pub silent : (v : ℕ) → (var == v) ≡ false → way_mentions old.store.nodes v below way ≡ false → may_mention new.store.nodes v node ≡ false
