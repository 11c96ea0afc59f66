-- A place of a forest as its active clauses and its states show it, and what becomes of these at the places right below.
use Rattle.std.proofs.Common.{◌≡◌, ℕ, ◌+◌, ◌*◌, ◌<◌, Bool, true, false, not, ◌||◌, List, [], ◌∷◌, ◌++◌, map, length, set, get_or, refl, ap, sym, ◌∙◌, arith}
use Rattle.std.specs.Prelude.{◌==◌}
use Rattle.std.specs.List.{filter, list_any, range_with_len, AllByRecursion}
use Rattle.std.proofs.lemmas.Bool.{and_parts, or_right}
use Rattle.std.proofs.lemmas.Bool.Decides.{nat_tests}
use Rattle.std.proofs.lemmas.List.{length-map, length-set}
use Rattle.std.proofs.lemmas.List.Folds.{list_any-append}
use Rattle.state_rules.specs.Bits.{bit_in}
use Rattle.state_rules.proofs.Lists.{filter-filter}
use Rattle.clause_encoder.specs.Clauses.{Clause, var_of}
use Rattle.elimination_forests.specs.declared.steps.Weight.{Weight}
use Rattle.elimination_forests.specs.Forests.{Forest, none, tree, trees, variables, is_among, meets, is_within, is_once, is_along, Place, decided, part, weigh, weight_at, forks_at}
use Rattle.forest_states.specs.inner.Descents.{has_var, meets_marked, within_marked, is_in_tree, goes_to, transition_at, met, transitions_of, kept_of, Stand, met_at, table_at, decided_states, decided_forks, part_states, column, row_at, forks_found, stand_decided, stand_part, column_at, weight_of}
use Rattle.forest_states.specs.declared.transition_tables.ClauseTransition.{ClauseTransition}
use Rattle.forest_states.proofs.OneClause.{is_active, is_met, meets-more, true-apart}
use Rattle.forest_states.proofs.BitsLeft.{IsKnown, Ends, transition_of, table_of}
use Rattle.forest_states.proofs.Mapped.{mapped-twice}
use Rattle.forest_states.proofs.Along.{at, state_of, flags_of, columns_of, known-apart, part-mapped, rows-mapped, meets_wider, known-decided, decided-mapped, forks-mapped}
use Rattle.forest_states.proofs.MarkedVariables.{along-closed, ends-there, any-same, within-same, mark-bit, AreSides}
use Rattle.forest_states.proofs.Numbers.{IsIndex, filter-within, map-within, passing, each-at}
use Rattle.forest_states.proofs.MetClauses.{met_if, met-either, kept-met}

-- a place of a forest
pub record Item : Type 0 where
  pub v : ℕ
  pub below : Forest
  pub bound : List ℕ
  pub lists : List (List Bool)

abbrev pub own_of : Item → List ℕ
own_of it = it.v ∷ variables it.below

abbrev pub place : List Clause → Item → Place
place clauses it = at it.bound clauses it.lists

-- its active clauses and its states
pub record IsItem (clauses : List Clause) (it : Item) (s : Stand) : Type 0 where
  pub along : (n : ℕ) → n < length clauses → meets (own_of it) (get_or clauses n []) ≡ true → is_along it.below (it.v ∷ it.bound) (get_or clauses n []) ≡ true
  pub free : (u : ℕ) → is_among (own_of it) u ≡ true → is_among it.bound u ≡ false
  pub known : AllByRecursion (IsKnown (own_of it) it.bound clauses) it.lists
  pub active : s.active ≡ filter (λ n. is_active (own_of it) it.bound (get_or clauses n [])) (range_with_len 0 (length clauses))
  pub states : s.states ≡ map (state_of (own_of it) it.bound clauses) it.lists

-- a base with the trees of `f`, perhaps beside others; `ws` has the variables of all its trees
pub record IsBase (clauses : List Clause) (ws : List ℕ) (f : Forest) (bound : List ℕ) (lists : List (List Bool)) (s : Stand) : Type 0 where
  pub along : (n : ℕ) → n < length clauses → meets (variables f) (get_or clauses n []) ≡ true → is_along f bound (get_or clauses n []) ≡ true
  pub free : (u : ℕ) → is_among (variables f) u ≡ true → is_among bound u ≡ false
  pub inside : (u : ℕ) → is_among (variables f) u ≡ true → is_among ws u ≡ true
  pub known : AllByRecursion (IsKnown ws bound clauses) lists
  pub active : s.active ≡ filter (λ n. is_active ws bound (get_or clauses n [])) (range_with_len 0 (length clauses))
  pub states : s.states ≡ map (state_of ws bound clauses) lists

abbrev pub IsBefore : List Bool → List ℕ → Type 0
IsBefore seen bound = (u : ℕ) → u < length seen → is_among bound u ≡ true → bit_in seen u ≡ true

abbrev pub AreItems : List Clause → List Bool → List Item → List Stand → Type 0
AreItems clauses seen [] [] = Unit {0}
AreItems clauses seen [] (s ∷ stands) = ⊥
AreItems clauses seen (it ∷ items) [] = ⊥
AreItems clauses seen (it ∷ items) (s ∷ stands) = IsItem clauses it s × IsBefore seen it.bound × AreItems clauses seen items stands

-- ---- the trees on a base

module _ (clauses : List Clause) (ws bound : List ℕ) (lists : List (List Bool)) (s : Stand) where
  abbrev cl : ℕ → Clause
  cl n = get_or clauses n []

  abbrev range : List ℕ
  range = range_with_len 0 (length clauses)

  module _ (v : ℕ) (below beside : Forest) (h : IsBase clauses ws (tree v below beside) bound lists s) where
    first : (u : ℕ) → is_among (v ∷ variables below) u ≡ true → is_among (variables (tree v below beside)) u ≡ true
    first u e = grind (arith, list_any-append)

    later : (u : ℕ) → is_among (variables beside) u ≡ true → is_among (variables (tree v below beside)) u ≡ true
    later u e = grind (arith, list_any-append)

    inside : (c : Clause) → meets (v ∷ variables below) c ≡ true → meets ws c ≡ true
    inside c e = meets_wider ws bound clauses lists h.known (v ∷ variables below) ws (λ u e. h.inside u (first u e)) c e

    wider : (xs : List ℕ) → ((u : ℕ) → is_among xs u ≡ true → is_among (variables (tree v below beside)) u ≡ true) → (c : Clause) → meets xs c ≡ true → meets (variables (tree v below beside)) c ≡ true
    wider xs e c = meets_wider ws bound clauses lists h.known xs (variables (tree v below beside)) e c

    pub base-beside : IsBase clauses ws beside bound lists s
    base-beside = record {
      along = λ n low e. grind (arith, h.along n low, wider (variables beside) later (cl n));
      free = λ u e. h.free u (later u e);
      inside = λ u e. h.inside u (later u e);
      known = h.known;
      active = h.active;
      states = h.states;
    }

    module _ (g : ℕ → Bool) (goes : (n : ℕ) → n < length clauses → is_active ws bound (cl n) ≡ true → g n ≡ meets (v ∷ variables below) (cl n)) where
      flags-are : map g s.active ≡ flags_of ws bound clauses lists h.known (v ∷ variables below)
      flags-are =
          ap (map g) h.active
          ∙ map-within g (λ n. meets (v ∷ variables below) (cl n)) (λ n. is_active ws bound (cl n)) 0 (length clauses) (λ n k e. goes n (omega arith) e)
          ∙ sym (mapped-twice (meets (v ∷ variables below)) cl (filter (λ n. is_active ws bound (cl n)) range))
          ∙ ap (map (meets (v ∷ variables below))) (sym (passing clauses (is_active ws bound)))

      pub column-is : column (map g s.active) s.states ≡ column (flags_of ws bound clauses lists h.known (v ∷ variables below)) (map (state_of ws bound clauses) lists)
      column-is = λ j. column (flags-are j) (h.states j)

      abbrev pub item_of : Item
      item_of = record { v = v; below = below; bound = bound; lists = (part (v ∷ variables below) (at bound clauses lists)).lists }

      pub item-of : IsItem clauses item_of (record { active = filter g s.active; states = part_states (map g s.active) s.states })
      item-of = record {
        along = λ n low e. grind (arith, h.along n low, wider (v ∷ variables below) first (cl n));
        free = λ u e. h.free u (first u e);
        known = known-apart ws bound clauses lists h.known (v ∷ variables below) inside;
        active = ap (filter g) h.active ∙ filter-filter g (λ n. is_active ws bound (cl n)) range
            ∙ filter-within _ (λ n. is_active (v ∷ variables below) bound (cl n)) 0 (length clauses) (λ n k. grind (arith, goes n (omega arith), inside (cl n)));
        states = (λ j. part_states (flags-are j) (h.states j)) ∙ part-mapped ws bound clauses lists h.known (v ∷ variables below) inside;
      }

-- ---- a variable is assigned

module _ (clauses : List Clause) (of : List (List ℕ)) (seen : List Bool) (found : IsIndex clauses of (length seen)) (v : ℕ) (below : Forest) (bound : List ℕ) (lists : List (List Bool)) (s : Stand)
    (h : IsItem clauses (record { v = v; below = below; bound = bound; lists = lists }) s) (before : IsBefore seen bound)
    (new : (u : ℕ) → is_among (v ∷ variables below) u ≡ true → bit_in seen u ≡ false) (once : is_once (v ∷ variables below) ≡ true) where
  abbrev clause : ℕ → Clause
  clause n = get_or clauses n []

  abbrev numbers_of : List ℕ
  numbers_of = range_with_len 0 (length clauses)

  pub weight-is : (weight : Weight) → weight_of weight s ≡ weight_at weight (v ∷ variables below) (at bound clauses lists)
  weight-is weight =
      let many = ap length h.states ∙ length-map lists (state_of (v ∷ variables below) bound clauses) in
      let long = ap length h.active ∙ sym (length-map (filter (λ n. is_active (v ∷ variables below) bound (clause n)) numbers_of) clause) ∙ ap length (sym (passing clauses (is_active (v ∷ variables below) bound))) in
      λ j. many j * weigh weight (long j)

  closed : (n : ℕ) → n < length clauses → meets (v ∷ variables below) (clause n) ≡ true → is_within (variables below ++ (v ∷ bound)) (clause n) ≡ true
  closed n low there = along-closed below (v ∷ bound) (clause n) (h.along n low there)

  apart : (u : ℕ) → is_among (variables below) u ≡ true → is_among (v ∷ bound) u ≡ false
  apart u e = grind (arith, nat_tests, once, h.free u)

  ends : (n : ℕ) → n < length clauses → meets (v ∷ variables below) (clause n) ≡ true → is_within (v ∷ bound) (clause n) ≡ not (meets (variables below) (clause n))
  ends n low there = ends-there (variables below) (v ∷ bound) apart (clause n) (closed n low there)

  ends-all : AllByRecursion (Ends v (variables below) bound) clauses
  ends-all = each-at (Ends v (variables below) bound) clauses ends

  marked-at : (u : ℕ) → u < length seen → is_among (variables below ++ (v ∷ bound)) u ≡ true → bit_in seen u ≡ is_among bound u
  marked-at u low e = grind (arith, list_any-append, before u low, new u)

  meets-is : (n : ℕ) → n < length clauses → meets (v ∷ variables below) (clause n) ≡ true → meets_marked seen (clause n) ≡ meets bound (clause n)
  meets-is n low there = any-same (variables below ++ (v ∷ bound)) (length seen) (bit_in seen) (is_among bound) marked-at (clause n) (found.small n low) (closed n low there)

  ends-is : (n : ℕ) → n < length clauses → meets (v ∷ variables below) (clause n) ≡ true → within_marked v seen (clause n) ≡ is_within (v ∷ bound) (clause n)
  ends-is n low there = within-same (variables below ++ (v ∷ bound)) bound seen (length seen) marked-at v (clause n) (found.small n low) (closed n low there)

  abbrev has : ℕ → Bool
  has n = has_var v (clause n)

  abbrev transition : ℕ → ClauseTransition
  transition n = (met_if (transition_at clauses seen v) has n).transition

  own-has : (n : ℕ) → has_var v (clause n) ≡ true → meets (v ∷ variables below) (clause n) ≡ true
  own-has n e = grind (arith, meets-more v (variables below) (clause n))

  met-is : met_at clauses of seen v s.active ≡ map (met_if (transition_at clauses seen v) has) (filter (λ n. is_met v (variables below) bound (clause n)) numbers_of)
  met-is =
      (λ j. met (transition_at clauses seen v) (found.each v j) (h.active j))
      ∙ met-either (transition_at clauses seen v) (λ n. is_active (v ∷ variables below) bound (clause n)) has 0 (length clauses) (λ n k e. grind (arith, meets-is n (omega arith), own-has n))
      ∙ ap (map (met_if (transition_at clauses seen v) has)) (filter-within _ (λ n. is_met v (variables below) bound (clause n)) 0 (length clauses)
      (λ n k. grind (arith, meets-more v (variables below) (clause n))))

  table-is : table_at clauses of seen v s.active ≡ table_of v (variables below) bound clauses
  table-is =
      ap transitions_of met-is
      ∙ mapped-twice (λ m. m.transition) (met_if (transition_at clauses seen v) has) (filter (λ n. is_met v (variables below) bound (clause n)) numbers_of)
      ∙ map-within transition (λ n. transition_of v bound (clause n)) (λ n. is_met v (variables below) bound (clause n)) 0 (length clauses) (λ n k e. grind (arith, meets-is n (omega arith), ends-is n (omega arith), ends n (omega arith), meets-more v (variables below) (clause n), true-apart v false (clause n), true-apart v true (clause n)))
      ∙ sym (mapped-twice (transition_of v bound) clause (filter (λ n. is_met v (variables below) bound (clause n)) numbers_of))
      ∙ ap (map (transition_of v bound)) (sym (passing clauses (is_met v (variables below) bound)))

  pub base-is : IsBase clauses (variables below) below (v ∷ bound) (decided v (at bound clauses lists)).lists (stand_decided clauses of seen v s)
  base-is = record {
    along = λ n low e. h.along n low (meets-more v (variables below) (clause n) ∙ or_right (has_var v (clause n)) (meets (variables below) (clause n)) e);
    free = apart;
    inside = λ u e. e;
    known = known-decided v below bound clauses ends-all lists h.known;
    active = ap kept_of met-is
        ∙ kept-met (transition_at clauses seen v) has (filter (λ n. is_met v (variables below) bound (clause n)) numbers_of)
        ∙ filter-filter (λ n. not (transition n).ends) (λ n. is_met v (variables below) bound (clause n)) numbers_of
        ∙ filter-within _ (λ n. is_active (variables below) (v ∷ bound) (clause n)) 0 (length clauses) (λ n k. grind (arith, meets-more v bound (clause n), ends-is n (omega arith), ends n (omega arith), own-has n));
    states = (λ j. decided_states (table-is j) (h.states j)) ∙ decided-mapped v below bound clauses ends-all lists h.known;
  }

  -- ---- the trees below

  module _ (nums : List ℕ) where
    goes-is : (j : ℕ) (own : List ℕ) → ((u : ℕ) → is_among own u ≡ true → is_among (variables below) u ≡ true)
        → ((u : ℕ) → u < length seen → is_among (variables below) u ≡ true → ((trees below == 1) || (get_or nums u 0 == j)) ≡ is_among own u)
        → (n : ℕ) → n < length clauses → is_active (variables below) (v ∷ bound) (clause n) ≡ true → goes_to clauses (trees below) (set seen v true) nums j n ≡ meets own (clause n)
    goes-is j own inside sides n low active_there = by (trees below == 1) refl where
      within : is_within (variables below ++ (v ∷ bound)) (clause n) ≡ true
      within = closed n low (grind (arith, meets-more v (variables below) (clause n)))

      by : (b : Bool) → (trees below == 1) ≡ b → (b || list_any (λ l. is_in_tree (set seen v true) nums j (var_of l)) (clause n)) ≡ meets own (clause n)
      by true e = sym (any-same (variables below ++ (v ∷ bound)) (length seen) (is_among own) (is_among (variables below)) (λ u k _. grind (arith, sides u k, inside u)) (clause n) (found.small n low) within ∙ (and_parts (meets (v ∷ bound) (clause n)) (meets (variables below) (clause n)) active_there).1)
      by false e = any-same (variables below ++ (v ∷ bound)) (length seen) (is_in_tree (set seen v true) nums j) (is_among own)
          (λ u k there. grind (arith, e, list_any-append, mark-bit seen v u k, apart u, new u, sides u k, inside u, before u k)) (clause n) (found.small n low) within

    next-before : IsBefore (set seen v true) (v ∷ bound)
    next-before u low there = grind (arith, mark-bit seen v u, before u, length-set seen v true)

    -- the places of trees side by side
    abbrev pub items_on : Forest → List Item
    items_on none = []
    items_on (tree x down beside) = (record { v = x; below = down; bound = v ∷ bound; lists = (part (x ∷ variables down) (at (v ∷ bound) clauses (decided v (at bound clauses lists)).lists)).lists }) ∷ items_on beside

    pub trees-are : (f : Forest) (j : ℕ) → IsBase clauses (variables below) f (v ∷ bound) (decided v (at bound clauses lists)).lists (stand_decided clauses of seen v s) → AreSides (trees below == 1) (variables below) nums (length seen) j f
        → AreItems clauses (set seen v true) (items_on f) (map (λ i. stand_part clauses (trees below) (set seen v true) nums i (stand_decided clauses of seen v s)) (range_with_len j (trees f)))
    trees-are none j h sides = tt
    trees-are (tree x down beside) j h sides = (
      item-of clauses (variables below) (v ∷ bound) (decided v (at bound clauses lists)).lists (stand_decided clauses of seen v s) x down beside h (goes_to clauses (trees below) (set seen v true) nums j)
          (goes-is j (x ∷ variables down) (λ u e. h.inside u (grind (arith, list_any-append))) sides.0),
      next-before,
      trees-are beside (j + 1) (base-beside clauses (variables below) (v ∷ bound) (decided v (at bound clauses lists)).lists (stand_decided clauses of seen v s) x down beside h) sides.1,
    )

    pub columns-are : (f : Forest) (j : ℕ) → (h : IsBase clauses (variables below) f (v ∷ bound) (decided v (at bound clauses lists)).lists (stand_decided clauses of seen v s)) → AreSides (trees below == 1) (variables below) nums (length seen) j f
        → map (λ i. column_at clauses (trees below) (set seen v true) nums i (stand_decided clauses of seen v s)) (range_with_len j (trees f))
        ≡ columns_of (variables below) (v ∷ bound) clauses (decided v (at bound clauses lists)).lists base-is.known f
    columns-are none j h sides = refl
    columns-are (tree x down beside) j h sides = λ i.
        column-is clauses (variables below) (v ∷ bound) (decided v (at bound clauses lists)).lists (stand_decided clauses of seen v s) x down beside h (goes_to clauses (trees below) (set seen v true) nums j)
        (goes-is j (x ∷ variables down) (λ u e. h.inside u (grind (arith, list_any-append))) sides.0) i
        ∷ columns-are beside (j + 1) (base-beside clauses (variables below) (v ∷ bound) (decided v (at bound clauses lists)).lists (stand_decided clauses of seen v s) x down beside h) sides.1 i

    pub forks-are : AreSides (trees below == 1) (variables below) nums (length seen) 0 below
        → forks_found (trees below) (row_at (map (λ i. column_at clauses (trees below) (set seen v true) nums i (stand_decided clauses of seen v s)) (range_with_len 0 (trees below)))) (decided_forks (table_at clauses of seen v s.active) s.states)
        ≡ forks_at v below (at bound clauses lists)
    forks-are sides =
        (λ j. forks_found (trees below) (row_at (columns-are below 0 base-is sides j)) (decided_forks (table-is j) (h.states j)))
        ∙ forks-mapped v below bound clauses ends-all lists h.known (row_at (columns_of (variables below) (v ∷ bound) clauses (decided v (at bound clauses lists)).lists base-is.known below))
        (λ x there it. rows-mapped (variables below) (v ∷ bound) clauses (decided v (at bound clauses lists)).lists base-is.known below (λ u e. e) x there it)
