-- The nodes of the lists at a place of a forest.
use Rattle.std.specs.Prelude.{◌≡◌, ℕ, ◌+◌, ◌*◌, ◌<◌, ◌≤◌, Bool, true, false, not, ◌&&◌, List, [], ◌∷◌, ◌++◌, length, slice_get, Some, Vec, reverse}
use Rattle.std.specs.declared.alloc.Global.{Global}
use Rattle.std.specs.List.{list_any, list_all, AllByRecursion, AllZip}
use Rattle.state_rules.specs.Bits.{same_bit}
use Rattle.state_rules.specs.Assignments.{Assignment}
use Rattle.state_rules.specs.Graphs.{Node, is_true, mentions}
use Rattle.node_store.specs.declared.store.TheConstants.{MADE_LIMIT}
use Rattle.clause_encoder.specs.Clauses.{Clause, var_of, is_positive}
use Rattle.elimination_forests.specs.Branches.{some_passes}
use Rattle.branch_states.specs.declared.measuring.TheConstants.{BUDGET_LIMIT}
use Rattle.elimination_forests.specs.declared.forks.Forks.{Forks}
use Rattle.elimination_forests.specs.declared.steps.Step.{Step}
use Rattle.elimination_forests.specs.declared.steps.Weight.TheVariants.{Lists}
use Rattle.elimination_forests.specs.Forests.{Forest, none, tree, trees, variables, is_among, is_once, fits, is_along, Place, decided, part, sum_on, forks_at}
use Rattle.dnnf_compiler.specs.declared.maker.Maker.{Maker}
use Rattle.dnnf_compiler.specs.inner.Making.{IsMaker, Adds}

-- ---- what a list says at a place

-- whether a literal is true whose variable is not assigned
abbrev pub rest_by : List ℕ → Assignment → Clause → Bool
rest_by bound a clause = list_any (λ l. not (is_among bound (var_of l)) && same_bit (is_positive l) (a (var_of l))) clause

-- whether all clauses of a list hold by variables that are not assigned
abbrev pub left_by : Place → Assignment → List Bool → Bool
left_by place a list = not (some_passes (λ c. not (rest_by place.bound a c)) place.clauses list)

-- ---- a variable, its place, and what is below it

pub record Spot : Type 0 where
  pub v : ℕ
  pub below : Forest
  pub place : Place

-- the places of the trees of a forest on a base
abbrev pub spots_on : Forest → Place → List Spot
spots_on none base = []
spots_on (tree v below beside) base = record { v = v; below = below; place = part (v ∷ variables below) base } ∷ spots_on beside base

-- the places right below a variable
abbrev pub spots_below : Spot → List Spot
spots_below spot = spots_on spot.below (decided spot.v spot.place)

-- Each of its variables is there once and is not assigned, and each clause of its lists goes down along them.
pub record IsSpot (vars : ℕ) (spot : Spot) : Type 0 where
  pub once : is_once (spot.v ∷ variables spot.below) ≡ true
  pub free : list_all (λ u. not (is_among spot.place.bound u)) (spot.v ∷ variables spot.below) ≡ true
  pub fit : list_all (fits vars) (spot.v ∷ variables spot.below) ≡ true
  pub along : AllByRecursion (λ list. some_passes (λ c. not (is_along spot.below (spot.v ∷ spot.place.bound) c)) spot.place.clauses list ≡ false) spot.place.lists

-- ---- nodes

-- The node is true exactly if the clauses of a list hold by unassigned variables. It mentions only variables of the tree.
pub record IsNodeAt (spot : Spot) (list : List Bool) (nodes : List Node) (node : ℕ) : Type 0 where
  pub within : node < length nodes
  pub truth : (a : Assignment) → is_true nodes node a ≡ left_by spot.place a list
  pub silent : (u : ℕ) → is_among (spot.v ∷ variables spot.below) u ≡ false → mentions nodes u node ≡ false

-- each list of a place has its node
pub record AreNodesAt (spot : Spot) (nodes : List Node) (numbers : List ℕ) : Type 0 where
  pub long : length numbers ≡ length spot.place.lists
  pub right : (j : ℕ) (list : List Bool) (n : ℕ) → slice_get spot.place.lists j ≡ Some list → slice_get numbers j ≡ Some n → IsNodeAt spot list nodes n

-- the nodes of several places, a level for each
abbrev pub AreLevels : List Node → List Spot → List (Vec ℕ Global) → Type 0
AreLevels nodes spots levels = AllZip (λ spot level. AreNodesAt spot nodes level.items) spots levels

-- The nodes below a place are made. The first place is on top of the stack.
pub record IsReady (m : Maker) (step : Step) (forks : Forks) (stack : List (Vec ℕ Global)) (spot : Spot) (rest : List Spot) : Type 0 where
  pub made : IsMaker m
  pub step_is : step ≡ record { var = spot.v; trees = trees spot.below }
  pub forks_are : forks ≡ forks_at spot.v spot.below spot.place
  pub spot_is : IsSpot m.store.vars spot
  pub stacked : AreLevels m.store.nodes (spots_below spot ++ rest) (reverse stack)
  pub few : m.store.made + 3 * length spot.place.lists ≤ MADE_LIMIT
  pub narrow : sum_on Lists spot.below (decided spot.v spot.place) ≤ BUDGET_LIMIT

-- The nodes of the place are made of them.
pub record IsRaised (old new : Maker) (stack : List (Vec ℕ Global)) (numbers : List ℕ) (spot : Spot) (rest : List Spot) : Type 0 where
  pub adds : Adds old new (3 * length spot.place.lists) ((4 + 2 * trees spot.below) * length spot.place.lists)
  pub nodes : AreNodesAt spot new.store.nodes numbers
  pub stacked : AreLevels new.store.nodes rest (reverse stack)
