-- The way up along a forest: the last step first.
use Rattle.std.proofs.Common.{Bool, ◌≡◌, ℕ, zero, suc, ◌+◌, ◌*◌, ◌≤◌, true, List, [], ◌∷◌, ◌++◌, map, length, drop, replicate, Some, refl, ap, sym, ◌∙◌, subst, arith, inl, length-append}
use Rattle.std.specs.Prelude.{slice_get, reverse, Vec}
use Rattle.std.specs.declared.alloc.Global.{Global}
use Rattle.std.specs.List.{flat_map, AllByRecursion}
use Rattle.std.proofs.lemmas.List.{append-nil, nil_from_length, drop_more, drop-drop, length-drop, length-reverse, reverse-append}
use Rattle.std.proofs.lemmas.List.Elements.{All-from_recursion}
use Rattle.std.proofs.lemmas.Option.{slice_get-get_or, slice_get_within}
use Rattle.std.proofs.lemmas.List.Concat.{flat_map-append}
use Rattle.state_rules.specs.Assignments.{Assignment}
use Rattle.state_rules.specs.Graphs.{IsGraph, is_true}
use Rattle.state_rules.proofs.Bits.{pointwise-refl}
use Rattle.state_rules.proofs.Lists.{AllByRecursion-append}
use Rattle.node_store.specs.Stores.{IsFrozen}
use Rattle.clause_encoder.specs.Clauses.{ClauseList, all_hold, is_clause_list}
use Rattle.branch_states.specs.declared.measuring.TheConstants.{BUDGET_LIMIT}
use Rattle.elimination_forests.proofs.MetOrder.{clauses-valid}
use Rattle.elimination_forests.specs.declared.forks.Forks.{Forks}
use Rattle.elimination_forests.specs.declared.steps.Step.{Step}
use Rattle.elimination_forests.specs.declared.steps.Weight.TheVariants.{Lists}
use Rattle.elimination_forests.specs.Forests.{Forest, none, tree, trees, steps_of, Place, decided, root, sum_on, begins, forks_at, forks_on, width}
use Rattle.dnnf_compiler.specs.Along.{IsWay, IsCompiledAlong}
use Rattle.dnnf_compiler.specs.declared.compiling.Compiled.{Compiled}
use Rattle.dnnf_compiler.specs.declared.maker.Maker.{Maker}
use Rattle.dnnf_compiler.specs.inner.Making.{IsMaker}
use Rattle.dnnf_compiler.specs.inner.Meeting.{AreMeetable, IsMeet, taken, AreHeld}
use Rattle.dnnf_compiler.specs.inner.Placing.{Spot, spots_on, spots_below, IsSpot, AreLevels, IsReady, IsRaised}
use Rattle.dnnf_compiler.proofs.ClausesLeft.{down_holds, each_spot, below_base, root_holds, root_down, root_base}
use Rattle.dnnf_compiler.proofs.PlaceNodes.{AreBegun, begun, length-levels, length-spots, trees_few}
use Rattle.dnnf_compiler.proofs.WayNodes.{length-taken}

-- ---- the places whose nodes are made when the steps from one on are done

abbrev advance : List Spot → List Spot
advance [] = []
advance (spot ∷ spots) = spots_below spot ++ spots

abbrev pub spots_at : List Spot → ℕ → List Spot
spots_at spots zero = spots
spots_at spots (suc i) = advance (spots_at spots i)

abbrev its_step : Spot → Step
its_step spot = record { var = spot.v; trees = trees spot.below }

abbrev its_steps : Spot → List Step
its_steps spot = its_step spot ∷ steps_of spot.below

abbrev its_forks : Spot → List Forks
its_forks spot = forks_at spot.v spot.below spot.place ∷ forks_on spot.below (decided spot.v spot.place)

abbrev pub all_sum : List Spot → ℕ
all_sum [] = 0
all_sum (spot ∷ spots) = (length spot.place.lists + sum_on Lists spot.below (decided spot.v spot.place)) + all_sum spots

-- the places of the trees of a base
record AreOn (most : ℕ) (forest : Forest) (base : Place) : Type 0 where
  steps : flat_map its_steps (spots_on forest base) ≡ steps_of forest
  forks : flat_map its_forks (spots_on forest base) ≡ forks_on forest base
  sum : all_sum (spots_on forest base) ≡ sum_on Lists forest base
  few : trees forest ≤ width forest
  narrow : width forest ≤ most → AllByRecursion (λ (s : Spot). width s.below ≤ most) (spots_on forest base)

are_on : (most : ℕ) (forest : Forest) (base : Place) → AreOn most forest base
are_on most none base = grind arith
are_on most (tree v below beside) base = grind (arith, are_on most beside base)

all_sum-append : (xs ys : List Spot) → all_sum (xs ++ ys) ≡ all_sum xs + all_sum ys
all_sum-append [] ys = omega arith
all_sum-append (x ∷ xs) ys = omega (arith, all_sum-append xs ys)

sum_next : (s : Spot) (rest : List Spot) → length s.place.lists + all_sum (spots_below s ++ rest) ≡ all_sum (s ∷ rest)
sum_next s rest = grind (arith, all_sum-append (spots_below s) rest, are_on 0 s.below (decided s.v s.place))

-- what is known of the places when the first `i` steps are left out
record IsAfter (vars most sum i : ℕ) (steps : List Step) (forks : List Forks) (spots : List Spot) : Type 0 where
  steps_are : flat_map its_steps spots ≡ drop i steps
  forks_are : flat_map its_forks spots ≡ drop i forks
  few : all_sum spots ≤ sum
  each : AllByRecursion (IsSpot vars) spots
  narrow : AllByRecursion (λ (s : Spot). width s.below ≤ most) spots

after_next : (vars most sum i : ℕ) (steps : List Step) (forks : List Forks) (spots : List Spot) → IsAfter vars most sum i steps forks spots → IsAfter vars most sum (suc i) steps forks (advance spots)
after_next vars most sum i steps forks [] is = grind (arith, drop-drop 1 i steps, drop-drop 1 i forks)
after_next vars most sum i steps forks (s ∷ spots) is = grind (
  arith,
  drop-drop 1 i steps,
  drop-drop 1 i forks,
  are_on most s.below (decided s.v s.place),
  flat_map-append,
  sum_next s spots,
  each_spot,
  below_base,
  AllByRecursion-append {A = Spot},
)

all_after : (vars most sum i : ℕ) (steps : List Step) (forks : List Forks) (spots : List Spot) → IsAfter vars most sum 0 steps forks spots → IsAfter vars most sum i steps forks (spots_at spots i)
all_after vars most sum zero steps forks spots is = is
all_after vars most sum (suc i) steps forks spots is = after_next vars most sum i steps forks (spots_at spots i) (all_after vars most sum i steps forks spots is)

-- ---- the place of a step

head_at : {X : Type 0} (i : ℕ) (x : X) (xs ys : List X) → x ∷ ys ≡ drop i xs → slice_get xs i ≡ Some x
head_at i x xs ys e = grind (arith, e, drop_more xs i x, slice_get-get_or xs i x, length-drop i xs)

forks_many : (forest : Forest) (base : Place) → length (forks_on forest base) ≡ length (steps_of forest)
forks_many none base = refl
forks_many (tree v below beside) base = grind (arith, length-append, forks_many below, forks_many beside base)

-- ---- the way up

abbrev pub start : ClauseList → Forest → List Spot
start cnf forest = spots_on forest (root cnf.clauses)

-- The nodes of these places are made.
pub record IsClimbing (cnf : ClauseList) (most : ℕ) (m : Maker) (stack : List (Vec ℕ Global)) (spots : List Spot) : Type 0 where
  pub maker : IsMaker m
  pub vars : m.store.vars ≡ cnf.vars
  pub stacked : AreLevels m.store.nodes spots (reverse stack)
  pub made : m.store.made ≤ 2 + 3 * all_sum spots
  pub handed : m.store.handed ≤ (4 + 2 * most) * all_sum spots

-- The place of a step: its nodes may be made, and then those of the step are.
pub record IsNext (cnf : ClauseList) (most : ℕ) (m : Maker) (stack : List (Vec ℕ Global)) (step : Step) (fork : Forks) (spots : List Spot) : Type 0 where
  pub spot : Spot
  pub rest : List Spot
  pub ready : IsReady m step fork stack spot rest
  pub more : (new : Maker) (under : List (Vec ℕ Global)) (numbers : Vec ℕ Global) → IsRaised m new under numbers.items spot rest → IsClimbing cnf most new (under ++ numbers ∷ []) spots

-- The conjunction of the nodes on the root of the forest may be made, and its graph is right.
pub record IsRoot (cnf : ClauseList) (forest : Forest) (m : Maker) (top : List (Vec ℕ Global)) (numbers : List ℕ) : Type 0 where
  pub held : AreHeld top numbers
  pub meetable : AreMeetable m (taken top numbers)
  pub right : (new : Maker) (node : ℕ) (compiled : Compiled) → IsMeet m new (taken top numbers) node → IsGraph compiled.graph → IsFrozen new.store node compiled.graph → compiled.made ≡ new.store.made
      → IsCompiledAlong forest cnf compiled

-- the children of a place's nodes
children_few : (old new k most lists below all : ℕ) → new ≤ old + (4 + 2 * k) * lists → k ≤ most → old ≤ (4 + 2 * most) * below → lists + below ≡ all → new ≤ (4 + 2 * most) * all
children_few old new k most lists below all h low so_far e = grind arith

module _ (cnf : ClauseList) (steps : List Step) (forks : List Forks) (forest : Forest) (is : IsWay cnf steps forks forest) where
  pub forks_long : length forks ≡ length steps
  forks_long = ap length is.forks_are ∙ forks_many forest (root cnf.clauses) ∙ sym (ap length is.steps_are)

  its_after : is_clause_list cnf ≡ true → (i : ℕ) → IsAfter cnf.vars (width forest) BUDGET_LIMIT i steps forks (spots_at (start cnf forest) i)
  its_after valid i = all_after cnf.vars (width forest) BUDGET_LIMIT i steps forks (start cnf forest) (grind (
    arith,
    is,
    are_on (width forest) forest (root cnf.clauses),
    each_spot cnf.vars forest (root cnf.clauses) (root_base cnf forest is.forest_is (clauses-valid cnf valid).2),
  ))

  pub climb_first : is_clause_list cnf ≡ true → (i : ℕ) (m : Maker) (stack : List (Vec ℕ Global)) → i ≡ length steps → IsMaker m → m.store.vars ≡ cnf.vars → m.store.made ≡ 2 → m.store.handed ≡ 0 → stack ≡ []
      → IsClimbing cnf (width forest) m stack (spots_at (start cnf forest) i)
  climb_first valid i m stack e made vars two no_child empty = by (spots_at (start cnf forest) i) (ap length (its_after valid i).steps_are) where
    by : (spots : List Spot) → length (flat_map its_steps spots) ≡ length (drop i steps) → IsClimbing cnf (width forest) m stack spots
    by [] same = grind (arith, made, vars, two, no_child, empty)
    by (spot ∷ rest) same = absurd (omega (arith, e, same, length-drop i steps))

  pub next_way : is_clause_list cnf ≡ true → (i : ℕ) (m : Maker) (stack : List (Vec ℕ Global)) (step : Step) (fork : Forks) → IsClimbing cnf (width forest) m stack (spots_at (start cnf forest) (suc i))
      → slice_get steps i ≡ Some step → slice_get forks i ≡ Some fork → IsNext cnf (width forest) m stack step fork (spots_at (start cnf forest) i)
  next_way valid i m stack step fork climbing step_there forks_there = by (spots_at (start cnf forest) i) climbing (its_after valid i) where
    by : (spots : List Spot) → IsClimbing cnf (width forest) m stack (advance spots) → IsAfter cnf.vars (width forest) BUDGET_LIMIT i steps forks spots → IsNext cnf (width forest) m stack step fork spots
    by [] climbed known = absurd (omega (arith, slice_get_within steps i step step_there, ap length known.steps_are, length-drop i steps))
    by (spot ∷ rest) climbed known = record {
      spot = spot;
      rest = rest;
      ready = grind (arith, step_there, forks_there, head_at i (its_step spot) steps _ known.steps_are, head_at i (forks_at spot.v spot.below spot.place) forks _ known.forks_are, climbed, known, sum_next spot rest);
      more = λ new under numbers raised. grind (arith, raised, climbed, known, sum_next spot rest, are_on 0 spot.below (decided spot.v spot.place), children_few m.store.handed new.store.handed (trees spot.below) (width forest), reverse-append under (numbers ∷ []));
    }

  -- ---- the root of the forest

  module _ (valid : is_clause_list cnf ≡ true) (m : Maker) (stack : List (Vec ℕ Global)) (climbing : IsClimbing cnf (width forest) m stack (spots_at (start cnf forest) 0)) where
    abbrev all : List Bool
    all = map (λ c. true) cnf.clauses

    module _ (top under : List (Vec ℕ Global)) (are : reverse stack ≡ top ++ reverse under) (many : length top ≡ length stack) where
      whole : reverse stack ≡ top
      whole = grind (arith, are, length-append, length-reverse, many, append-nil, nil_from_length)

      levels : AreLevels m.store.nodes (spots_on forest (root cnf.clauses)) top
      levels = rw whole at climbing.stacked

      its_begin : AreBegun m.store.nodes forest (root cnf.clauses) top all
      its_begin = begun m.store.nodes forest (root cnf.clauses) top all (root_base cnf forest is.forest_is (clauses-valid cnf valid).2).once (inl refl) levels

      top_many : length top ≡ trees forest
      top_many = sym (length-levels m.store.nodes (spots_on forest (root cnf.clauses)) top levels) ∙ length-spots forest (root cnf.clauses)

      begin_zero : (part_forest : Forest) → begins part_forest (root cnf.clauses) all ≡ replicate (trees part_forest) 0
      begin_zero none = refl
      begin_zero (tree v below beside) = grind (arith, begin_zero beside, pointwise-refl)

      module _ (numbers : List ℕ) (n : ℕ) (long : n ≡ length stack) (zeros : numbers ≡ replicate n 0) where
        same_numbers : begins forest (root cnf.clauses) all ≡ numbers
        same_numbers = grind (arith, begin_zero forest, long, many, top_many, zeros)

        held : AreHeld top numbers
        held = subst (AreHeld top) same_numbers its_begin.held

        pub root_is : IsRoot cnf forest m top numbers
        root_is = record {
          held = held;
          meetable = grind (arith, climbing, All-from_recursion, same_numbers, its_begin, length-taken top numbers held, top_many, trees_few forest (root cnf.clauses) all (inl refl), is.few, are_on 0 forest (root cnf.clauses));
          right = λ new node compiled meet valid_graph frozen made.
              let says : (a : Assignment) → is_true new.store.nodes node a ≡ all_hold a cnf.clauses =
              λ a. grind (arith, meet.truth a, same_numbers, its_begin.truth a, down_holds forest (root cnf.clauses) a all (root_down cnf forest is.forest_is (clauses-valid cnf valid).2), root_holds cnf.clauses a) in
              grind (arith, valid_graph, frozen, meet.adds, meet.alone, made, climbing, says, length-taken top numbers held, top_many, are_on 0 forest (root cnf.clauses), children_few m.store.handed new.store.handed (width forest) (width forest) 1);
        }
