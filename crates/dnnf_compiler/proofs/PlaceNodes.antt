-- The nodes of the lists at a place, from those of the places right below it.
use Rattle.std.proofs.Common.{◌≡◌, ℕ, suc, ◌<◌, ◌≤◌, Bool, true, false, List, [], ◌∷◌, ◌++◌, map, length, get_or, All, Option, refl, ap, sym, arith}
use Rattle.std.specs.Prelude.{slice_index, reverse, IfSome, Vec}
use Rattle.std.specs.declared.alloc.Global.{Global}
use Rattle.std.specs.List.{list_any, list_all, AllByRecursion}
use Rattle.std.proofs.lemmas.Bool.Decides.{nat_tests}
use Rattle.std.proofs.lemmas.List.{nil_from_length, length-map, get_or-map, length-reverse, length-append}
use Rattle.std.proofs.lemmas.List.Folds.{list_any-append}
use Rattle.std.proofs.lemmas.Option.{slice_get-map, slice_get_within, get_or_from_slice_get, slice_get-get_or}
use Rattle.state_rules.specs.Assignments.{Assignment}
use Rattle.state_rules.specs.Graphs.{Node, at_most_one, is_true, mentions}
use Rattle.state_rules.proofs.Lists.{list_any-map}
use Rattle.state_rules.proofs.Members.{In, In-at}
use Rattle.branch_states.specs.declared.measuring.TheConstants.{BUDGET_LIMIT}
use Rattle.elimination_forests.proofs.Lists.{each-at}
use Rattle.elimination_forests.specs.declared.forks.Forks.{Forks}
use Rattle.elimination_forests.specs.declared.steps.Step.{Step}
use Rattle.elimination_forests.specs.declared.steps.Weight.TheVariants.{Lists}
use Rattle.elimination_forests.specs.Forests.{Forest, none, tree, trees, variables, is_among, is_once, Place, next_by, decided, part_of, part, sum_on, number_in, begins, way_by, forks_at}
use Rattle.elimination_forests.proofs.PassedClauses.{once_back, once_apart}
use Rattle.dnnf_compiler.specs.declared.maker.Maker.{Maker}
use Rattle.dnnf_compiler.specs.inner.Joining.{Grows}
use Rattle.dnnf_compiler.specs.inner.Meeting.{taken, AreHeld, IsUsable, way_true, way_mentions, IsChoice, IsPlaceable, AreChoices}
use Rattle.dnnf_compiler.specs.inner.Placing.{left_by, Spot, spots_on, spots_below, IsSpot, IsNodeAt, AreNodesAt, AreLevels, IsReady, IsRaised}
use Rattle.std.proofs.lemmas.Slice.Zip.{AllZip-long}
use Rattle.state_rules.proofs.Children.{at_most_one-from, at_most_one-none}
use Rattle.dnnf_compiler.proofs.ClausesLeft.{expand_by, dead_left, trees_hold, IsDown, down_holds, each_down, number_at, part_in, next_in}

-- ---- nodes stay

levels_grow : (old new : List Node) (spots : List Spot) (levels : List (Vec ℕ Global)) → Grows old new → AreLevels old spots levels → AreLevels new spots levels
levels_grow old new [] levels g are = are
levels_grow old new (spot ∷ spots) [] g are = are
levels_grow old new (spot ∷ spots) (level ∷ levels) g are = grind (arith, levels_grow old new spots levels g are.1)

-- ---- the top of a stack

levels_split : (nodes : List Node) (xs ys : List Spot) (top under : List (Vec ℕ Global)) → length top ≡ length xs → AreLevels nodes (xs ++ ys) (top ++ under) → AreLevels nodes xs top × AreLevels nodes ys under
levels_split nodes [] ys top under e are = grind (arith, nil_from_length)
levels_split nodes (spot ∷ xs) ys [] under e are = absurd (omega arith)
levels_split nodes (spot ∷ xs) ys (level ∷ top) under e are = grind (arith, levels_split nodes xs ys top under (omega arith) are.1)

pub length-levels : (nodes : List Node) (spots : List Spot) (levels : List (Vec ℕ Global)) → AreLevels nodes spots levels → length spots ≡ length levels
length-levels nodes spots levels are = sym (AllZip-long (λ (spot : Spot) (level : Vec ℕ Global). AreNodesAt spot nodes level.items) spots levels are)

pub length-spots : (forest : Forest) (base : Place) → length (spots_on forest base) ≡ trees forest
length-spots none base = refl
length-spots (tree v below beside) base = ap suc (length-spots beside base)

-- ---- the trees of a base

-- the nodes at which they begin
pub record AreBegun (nodes : List Node) (forest : Forest) (base : Place) (levels : List (Vec ℕ Global)) (list : List Bool) : Type 0 where
  pub held : AreHeld levels (begins forest base list)
  pub many : length (begins forest base list) ≡ trees forest
  pub within : AllByRecursion (λ k. k < length nodes) (taken levels (begins forest base list))
  pub truth : (a : Assignment) → list_all (λ k. is_true nodes k a) (taken levels (begins forest base list)) ≡ trees_hold forest base a list
  pub silent : (u : ℕ) → is_among (variables forest) u ≡ false → list_any (mentions nodes u) (taken levels (begins forest base list)) ≡ false
  pub apart : (u : ℕ) → at_most_one (map (mentions nodes u) (taken levels (begins forest base list))) ≡ true

pub begun : (nodes : List Node) (forest : Forest) (base : Place) (levels : List (Vec ℕ Global)) (list : List Bool) → is_once (variables forest) ≡ true → In list base.lists
    → AreLevels nodes (spots_on forest base) levels → AreBegun nodes forest base levels list
begun nodes none base levels list once there are = grind arith
begun nodes (tree v below beside) base [] list once there are = absurd are
begun nodes (tree v below beside) base (level ∷ levels) list once there are = grind (arith, node, begun nodes beside base levels list (once_back (v ∷ variables below) (variables beside) once) there are.1, list_any-append, at_most_one-from, at_most_one-none, list_any-map, once_apart (v ∷ variables below) (variables beside)) where
  k : ℕ
  k = number_in (part (v ∷ variables below) base).lists (part_of (v ∷ variables below) base list)

  node : (k < length level.items) × IsNodeAt (record { v = v; below = below; place = part (v ∷ variables below) base }) (part_of (v ∷ variables below) base list) nodes (slice_index level.items k)
  node = grind (arith, are.0, number_at (part (v ∷ variables below) base).lists (part_of (v ∷ variables below) base list) (part_in (v ∷ variables below) base list there), slice_get_within, slice_get-get_or level.items k 0)

-- ---- if there is a list, there are no more trees than lists

pub trees_few : (forest : Forest) (base : Place) (list : List Bool) → In list base.lists → trees forest ≤ sum_on Lists forest base
trees_few none base list there = omega arith
trees_few (tree v below beside) base list there = grind (arith, trees_few beside base list there, slice_get_within, number_at (part (v ∷ variables below) base).lists (part_of (v ∷ variables below) base list) (part_in (v ∷ variables below) base list there))

-- ---- the ways of a list

module _ (vars : ℕ) (spot : Spot) (nodes : List Node) (levels : List (Vec ℕ Global)) (is : IsSpot vars spot) (are : AreLevels nodes (spots_below spot) levels) (narrow : sum_on Lists spot.below (decided spot.v spot.place) ≤ BUDGET_LIMIT) where
  abbrev base : Place
  base = decided spot.v spot.place

  abbrev next : List Bool → Bool → List Bool
  next list bit = next_by spot.v spot.place list bit

  abbrev way : Bool → List Bool → Option (List ℕ)
  way bit list = way_by spot.v spot.below spot.place bit list

  its_begin : (list : List Bool) (bit : Bool) → In (next list bit) (decided spot.v spot.place).lists → AreBegun nodes spot.below (decided spot.v spot.place) levels (next list bit)
  its_begin list bit there = begun nodes spot.below (decided spot.v spot.place) levels (next list bit) (grind (arith, nat_tests, is.once)) there are

  way_usable : (list : List Bool) (bit : Bool) → In list spot.place.lists → IfSome (way bit list) (IsUsable nodes spot.v levels)
  way_usable list bit at = grind (arith, next_in spot.v spot.place list bit at, its_begin list bit, trees_few spot.below base (next list bit), narrow, is.once, nat_tests)

  way_silent : (list : List Bool) (bit : Bool) (u : ℕ) → In list spot.place.lists → is_among (variables spot.below) u ≡ false → way_mentions nodes u levels (way bit list) ≡ false
  way_silent list bit u at apart = grind (arith, next_in spot.v spot.place list bit at, its_begin list bit)

  way_says : (list : List Bool) (bit : Bool) (a : Assignment) → In list spot.place.lists → a spot.v ≡ bit → way_true nodes a levels (way bit list) ≡ left_by spot.place a list
  way_says list bit a at e = grind (arith, expand_by spot.v spot.place a list (grind (arith, nat_tests, is.free)), dead_left (decided spot.v spot.place) a (next list bit), next_in spot.v spot.place list bit at, its_begin list bit, down_holds spot.below (decided spot.v spot.place) a (next list bit), each-at (IsDown spot.below (decided spot.v spot.place)) (next list bit) (decided spot.v spot.place).lists (each_down vars spot is))

  chosen_node : (new : List Node) (list : List Bool) (n : ℕ) → In list spot.place.lists → IsChoice nodes new spot.v levels (way false list) (way true list) n → IsNodeAt spot list new n
  chosen_node new list n at node = grind (arith, way_says list false, way_says list true, way_silent list false, way_silent list true)

  pub all_usable : (bit : Bool) → All (λ w. IfSome w (IsUsable nodes spot.v levels)) (map (way bit) spot.place.lists)
  all_usable bit k d h = grind (arith, length-map, get_or-map (way bit) spot.place.lists k [] d, way_usable (get_or spot.place.lists k []) bit, In-at spot.place.lists k [])

  chosen_nodes : (old new : Maker) (numbers : List ℕ) → nodes ≡ old.store.nodes → AreChoices old new spot.v levels (forks_at spot.v spot.below spot.place) numbers → AreNodesAt spot new.store.nodes numbers
  chosen_nodes old new numbers same made = record {
    long = grind (arith, made.long, length-map);
    right = λ j list n here there. chosen_node new.store.nodes list n (rw (← get_or_from_slice_get spot.place.lists j list [] here) (In-at spot.place.lists j [] (slice_get_within spot.place.lists j list here)))
        (rw same (made.right j (way false list) (way true list) n (rw (slice_get-map, here) refl) (rw (slice_get-map, here) refl) there));
  }

-- ---- one step

module _ (m : Maker) (step : Step) (forks : Forks) (stack under : List (Vec ℕ Global)) (top : List (Vec ℕ Global)) (spot : Spot) (rest : List Spot) (ready : IsReady m step forks stack spot rest) where
  pub enough : step.trees ≤ length stack
  enough = grind (arith, ready.step_is, length-levels m.store.nodes (spots_below spot ++ rest) (reverse stack) ready.stacked, length-reverse stack, length-append, length-spots)

  module _ (are : reverse stack ≡ top ++ reverse under) (many : length top ≡ step.trees) where
    its_many : length top ≡ trees spot.below
    its_many = grind (arith, ready.step_is, many)

    both : AreLevels m.store.nodes (spots_below spot) top × AreLevels m.store.nodes rest (reverse under)
    both = levels_split m.store.nodes (spots_below spot) rest top (reverse under) (grind (arith, its_many, length-spots)) (rw are at ready.stacked)

    pub placeable : IsPlaceable m step.var top forks
    placeable = grind (arith, nat_tests, ready, length-map, all_usable m.store.vars spot m.store.nodes top ready.spot_is both.0 ready.narrow false, all_usable m.store.vars spot m.store.nodes top ready.spot_is both.0 ready.narrow true)

    pub raised : (new : Maker) (numbers : List ℕ) → AreChoices m new step.var top forks numbers → IsRaised m new under numbers spot rest
    raised new numbers made = grind (arith, ready.step_is, ready.forks_are, its_many, made, both, chosen_nodes m.store.vars spot m.store.nodes top ready.spot_is both.0 ready.narrow m new numbers refl, levels_grow m.store.nodes new.store.nodes rest (reverse under), length-map)
