-- A way down a forest: what was found, and the pending places.
use Rattle.std.proofs.Common.{◌≡◌, ℕ, ◌+◌, ◌≤◌, ◌<◌, set, replicate, Bool, true, false, not, ◌&&◌, List, [], ◌∷◌, ◌++◌, map, length, drop, get_or, get_or-set_other, refl, ap, sym, ◌∙◌, subst, arith}
use mathlib.Core.Path.{transport}
use Rattle.std.specs.Prelude.{◌==◌, if◌then◌else◌}
use Rattle.std.specs.List.{flat_map, list_all, range_with_len}
use Rattle.std.proofs.lemmas.Bool.{false≢true, and_parts}
use Rattle.std.proofs.lemmas.Bool.Decides.{nat_tests}
use Rattle.std.proofs.lemmas.List.{append_assoc, append-nil, get_or-drop, drop-drop, drop_all, length-drop, length-set}
use Rattle.std.proofs.lemmas.List.Concat.{flat_map-append}
use Rattle.std.proofs.lemmas.List.Folds.{list_any-append}
use Rattle.state_rules.specs.Bits.{bit_in}
use Rattle.state_rules.proofs.Lists.{any-never, filter-never, list_all-at}
use Rattle.clause_encoder.specs.Clauses.{Clause, ClauseList, is_clause, is_clause_list}
use Rattle.elimination_forests.proofs.MetOrder.{clauses-valid}
use Rattle.elimination_forests.specs.declared.steps.Step.{Step}
use Rattle.elimination_forests.specs.declared.steps.Weight.{Weight}
use Rattle.elimination_forests.specs.declared.forks.Forks.{Forks}
use Rattle.elimination_forests.specs.Forests.{Forest, none, tree, trees, steps_of, variables, is_among, meets, is_once, fits, is_along, is_forest_of, root, decided, part, weight_at, sum_on, forest_sum, forks_at, forks_on}
use Rattle.elimination_forests.proofs.PassedClauses.{once_front}
use Rattle.forest_states.specs.inner.Descents.{Stand, first_stand, or_first, step_at, numbers_at, stands_below, forks_below, weight_of}
use Rattle.forest_states.proofs.OneClause.{is_active}
use Rattle.forest_states.proofs.BitsLeft.{IsKnown}
use Rattle.forest_states.proofs.Along.{at, state_of}
use Rattle.forest_states.proofs.MarkedVariables.{along-closed, AreSides, sides-are, mark-bit, no-mark}
use Rattle.forest_states.proofs.Numbers.{IsIndex, filter-within}
use Rattle.forest_states.proofs.ShownPlaces.{Item, own_of, place, IsBase, IsBefore, AreItems, base-beside, item-of, weight-is, base-is, items_on, trees-are, forks-are}

-- ---- what is still to be found

abbrev pub steps_left : List Item → List Step
steps_left items = flat_map (λ it. (record { var = it.v; trees = trees it.below }) ∷ steps_of it.below) items

abbrev pub variables_left : List Item → List ℕ
variables_left items = flat_map own_of items

abbrev pub forks_left : List Clause → List Item → List Forks
forks_left clauses items = flat_map (λ it. forks_at it.v it.below (place clauses it) ∷ forks_on it.below (decided it.v (place clauses it))) items

abbrev pub sum_left : Weight → List Clause → List Item → ℕ
sum_left weight clauses [] = 0
sum_left weight clauses (it ∷ items) = (weight_at weight (own_of it) (place clauses it) + sum_on weight it.below (decided it.v (place clauses it))) + sum_left weight clauses items

-- with these pending places, and these trees on the root
pub record WayOf (weight : Weight) (all : List Step) (clauses : List Clause) (forest : Forest) (i : ℕ) (seen : List Bool) (found : List Forks) (sum : ℕ) (stands : List Stand) (items : List Item) (later : Forest) : Type 0 where
  pub steps : drop i all ≡ steps_left items ++ steps_of later
  pub are : AreItems clauses seen items stands
  pub base : IsBase clauses (variables forest) later [] (root clauses).lists first_stand
  pub once : is_once (variables_left items ++ variables later) ≡ true
  pub new : (u : ℕ) → is_among (variables_left items ++ variables later) u ≡ true → bit_in seen u ≡ false
  pub forks : found ++ (forks_left clauses items ++ forks_on later (root clauses)) ≡ forks_on forest (root clauses)
  pub total : sum + (sum_left weight clauses items + sum_on weight later (root clauses)) ≡ forest_sum weight forest clauses

abbrev pub Way : Weight → List Step → List Clause → Forest → ℕ → List Bool → List Forks → ℕ → List Stand → Type 0
Way weight all clauses forest i seen found sum stands = (items : List Item) × (later : Forest) × WayOf weight all clauses forest i seen found sum stands items later

-- one more mark
items-marked : (clauses : List Clause) (seen : List Bool) (v : ℕ) → ((bound : List ℕ) → IsBefore seen bound → IsBefore (set seen v true) bound) → (items : List Item) (stands : List Stand)
    → AreItems clauses seen items stands → AreItems clauses (set seen v true) items stands
items-marked clauses seen v more [] [] are = are
items-marked clauses seen v more [] (s ∷ stands) are = are
items-marked clauses seen v more (it ∷ items) [] are = are
items-marked clauses seen v more (it ∷ items) (s ∷ stands) are = (are.0, more it.bound are.1, items-marked clauses seen v more items stands are.2)

items-append : (clauses : List Clause) (seen : List Bool) (xs ys : List Item) (ss ts : List Stand) → AreItems clauses seen xs ss → AreItems clauses seen ys ts → AreItems clauses seen (xs ++ ys) (ss ++ ts)
items-append clauses seen [] ys [] ts are more = more
items-append clauses seen [] ys (s ∷ ss) ts are more = absurd are
items-append clauses seen (x ∷ xs) ys [] ts are more = absurd are
items-append clauses seen (x ∷ xs) ys (s ∷ ss) ts are more = (are.0, are.1, items-append clauses seen xs ys ss ts are.2 more)

sum-append : (weight : Weight) (clauses : List Clause) (xs ys : List Item) → sum_left weight clauses (xs ++ ys) ≡ sum_left weight clauses xs + sum_left weight clauses ys
sum-append weight clauses [] ys = omega arith
sum-append weight clauses (x ∷ xs) ys = omega (arith, sum-append weight clauses xs ys)

-- ---- one step

pub step-at : (all : List Step) (i : ℕ) (d x : Step) (ys : List Step) → drop i all ≡ x ∷ ys → get_or all i d ≡ x
step-at all i d x ys e = grind (arith, get_or-drop i all 0 d)

module _ (weight : Weight) (all : List Step) (clauses : List Clause) (of : List (List ℕ)) (seen : List Bool) (known : IsIndex clauses of (length seen)) (numbers : List ℕ) (size : length numbers ≡ length seen)
    (forest : Forest) (i : ℕ) (d : Step) (found : List Forks) (sum : ℕ) (s : Stand) (stands : List Stand) where
  abbrev After : Step → List Step → Type 0
  After step rest = Way weight all clauses forest (i + 1) (set seen step.var true) (found ++ forks_below clauses of seen numbers step rest s ∷ []) (sum + weight_of weight s) (stands_below clauses of seen numbers step rest s ++ stands)

  module _ (v : ℕ) (below : Forest) (bound : List ℕ) (lists : List (List Bool)) (items : List Item) (later : Forest) where
    abbrev it : Item
    it = record { v = v; below = below; bound = bound; lists = lists }

    abbrev step : Step
    step = record { var = v; trees = trees below }

    go : WayOf weight all clauses forest i seen found sum (s ∷ stands) (it ∷ items) later → After (get_or all i d) (drop (i + 1) all)
    go way =
        subst (λ x. After x (drop (i + 1) all)) (sym (step-at all i d step _ way.steps))
        (subst (After step) (sym rest_is) (
          new_items below ++ items,
          later,
          record {
            steps = rest_is ∙ sym (append_assoc (steps_of below) (steps_left items) (steps_of later))
                ∙ ap (λ ss. (ss ++ steps_left items) ++ steps_of later) (sym (steps-on below)) ∙ ap (λ ss. ss ++ steps_of later) (sym (flat_map-append (λ x. (record { var = x.v; trees = trees x.below }) ∷ steps_of x.below) (new_items below) items));
            are = items-append clauses (set seen v true) (new_items below) items _ stands
                (trees-are clauses of seen known v below bound lists s way.are.0 way.are.1 here_new here_once nums below 0 (base-is clauses of seen known v below bound lists s way.are.0 way.are.1 here_new here_once) sides)
                (items-marked clauses seen v (λ bs before u low there. grind (arith, mark-bit seen v u, before u, length-set seen v true)) items stands way.are.2);
            base = way.base;
            once = ap is_once ahead ∙ (and_parts (not (is_among tail v)) (is_once tail) way.once).1;
            new = λ u there. grind (arith, nat_tests, get_or-set_other, way.once, way.new u, ap (λ vs. is_among vs u) ahead);
            forks = append_assoc found (forks_below clauses of seen numbers step own_rest s ∷ []) _
                ∙ (λ j. found ++ (forks-are clauses of seen known v below bound lists s way.are.0 way.are.1 here_new here_once nums sides j ∷ forks_ahead j)) ∙ way.forks;
            total = omega (arith, way.total, weight-is clauses of seen known v below bound lists s way.are.0 way.are.1 here_new here_once weight, sum-append weight clauses (new_items below) items, sum-on below);
          },
        )) where
          own_rest : List Step
          own_rest = steps_of below ++ (steps_left items ++ steps_of later)

          rest_is : drop (i + 1) all ≡ steps_of below ++ (steps_left items ++ steps_of later)
          rest_is = sym (drop-drop 1 i all) ∙ ap (drop 1) way.steps ∙ append_assoc (steps_of below) (steps_left items) (steps_of later)

          tail : List ℕ
          tail = (variables below ++ variables_left items) ++ variables later

          here_once : is_once (v ∷ variables below) ≡ true
          here_once = once_front (v ∷ variables below) (variables_left items) (once_front ((v ∷ variables below) ++ variables_left items) (variables later) way.once)

          here_new : (u : ℕ) → is_among (v ∷ variables below) u ≡ true → bit_in seen u ≡ false
          here_new u e = way.new u (grind (arith, list_any-append))

          nums : List ℕ
          nums = numbers_at (trees below) own_rest numbers

          sides : AreSides (trees below == 1) (variables below) nums (length seen) 0 below
          sides = subst (λ n. AreSides (trees below == 1) (variables below) nums n 0 below) size (sides-are below (steps_left items ++ steps_of later) numbers (and_parts (not (is_among (variables below) v)) (is_once (variables below)) here_once).1)

          new_items : Forest → List Item
          new_items f = items_on clauses of seen known v below bound lists s way.are.0 way.are.1 here_new here_once nums f

          steps-on : (f : Forest) → steps_left (new_items f) ≡ steps_of f
          steps-on none = refl
          steps-on (tree x down beside) = ap (λ ss. (record { var = x; trees = trees down }) ∷ (steps_of down ++ ss)) (steps-on beside)

          variables-on : (f : Forest) → variables_left (new_items f) ≡ variables f
          variables-on none = refl
          variables-on (tree x down beside) = ap (λ vs. x ∷ (variables down ++ vs)) (variables-on beside)

          forks-on : (f : Forest) → forks_left clauses (new_items f) ≡ forks_on f (decided v (at bound clauses lists))
          forks-on none = refl
          forks-on (tree x down beside) =
              ap (λ fs. forks_at x down (part (x ∷ variables down) (decided v (at bound clauses lists))) ∷ (forks_on down (decided x (part (x ∷ variables down) (decided v (at bound clauses lists)))) ++ fs)) (forks-on beside)

          sum-on : (f : Forest) → sum_left weight clauses (new_items f) ≡ sum_on weight f (decided v (at bound clauses lists))
          sum-on none = refl
          sum-on (tree x down beside) = omega (arith, sum-on beside)

          ahead : variables_left (new_items below ++ items) ++ variables later ≡ (variables below ++ variables_left items) ++ variables later
          ahead = ap (λ vs. vs ++ variables later) (flat_map-append own_of (new_items below) items ∙ ap (λ vs. vs ++ variables_left items) (variables-on below))

          forks_ahead : forks_left clauses (new_items below ++ items) ++ forks_on later (root clauses) ≡ (forks_on below (decided v (at bound clauses lists)) ++ forks_left clauses items) ++ forks_on later (root clauses)
          forks_ahead = ap (λ fs. fs ++ forks_on later (root clauses)) (flat_map-append (λ o. forks_at o.v o.below (place clauses o) ∷ forks_on o.below (decided o.v (place clauses o))) (new_items below) items ∙ ap (λ fs. fs ++ forks_left clauses items) (forks-on below))

  pub way-more : Way weight all clauses forest i seen found sum (s ∷ stands) → After (get_or all i d) (drop (i + 1) all)
  way-more ([], later, way) = absurd way.are
  way-more (it ∷ items, later, way) = go it.v it.below it.bound it.lists items later way

  pub way-most : Way weight all clauses forest i seen found sum (s ∷ stands) → sum + weight_of weight s ≤ forest_sum weight forest clauses
  way-most way = omega (arith, (way-more way).2.total)

-- ---- a tree on the root

none-active : (vs : List ℕ) (c : Clause) → is_active vs [] c ≡ false
none-active vs c = ap (λ m. m && meets vs c) (any-never c)

pub way-begin : (weight : Weight) (all : List Step) (clauses : List Clause) (forest : Forest) (i : ℕ) (seen : List Bool) (found : List Forks) (sum : ℕ) → i < length all
    → Way weight all clauses forest i seen found sum [] → Way weight all clauses forest i seen found sum (first_stand ∷ [])
way-begin weight all clauses forest i seen found sum low (it ∷ items, later, way) = absurd way.are
way-begin weight all clauses forest i seen found sum low ([], none, way) = absurd (omega (arith, low, ap length way.steps, length-drop i all))
way-begin weight all clauses forest i seen found sum low ([], tree v below beside, way) =
    let same = ap (λ vs. vs ++ variables beside) (append-nil (v ∷ variables below)) in (
      (record { v = v; below = below; bound = []; lists = (part (v ∷ variables below) (root clauses)).lists }) ∷ [],
      beside,
      record {
        steps = way.steps ∙ ap (λ ss. ss ++ steps_of beside) (sym (append-nil ((record { var = v; trees = trees below }) ∷ steps_of below)));
        are = (
          item-of clauses (variables forest) [] (root clauses).lists first_stand v below beside way.base (λ n. false) (λ n low e. absurd (false≢true (sym (none-active (variables forest) (get_or clauses n [])) ∙ e))),
          (λ u low e. absurd (false≢true e)),
          tt,
        );
        base = base-beside clauses (variables forest) [] (root clauses).lists first_stand v below beside way.base;
        once = ap is_once same ∙ way.once;
        new = λ u e. way.new u (ap (λ vs. is_among vs u) (sym same) ∙ e);
        forks = ap (λ fs. found ++ (fs ++ forks_on beside (root clauses))) (append-nil (forks_at v below (part (v ∷ variables below) (root clauses)) ∷ forks_on below (decided v (part (v ∷ variables below) (root clauses))))) ∙ way.forks;
        total = omega (arith, way.total);
      },
    )

pub way-ready : (weight : Weight) (all : List Step) (clauses : List Clause) (forest : Forest) (i : ℕ) (seen : List Bool) (found : List Forks) (sum : ℕ) (stands : List Stand) → i < length all
    → Way weight all clauses forest i seen found sum stands → Way weight all clauses forest i seen found sum (or_first stands)
way-ready weight all clauses forest i seen found sum [] low way = way-begin weight all clauses forest i seen found sum low way
way-ready weight all clauses forest i seen found sum (s ∷ stands) low way = way

pub next-is : (before : List Stand) → (s : Stand) × (stands : List Stand) × (s ∷ stands ≡ or_first before)
next-is [] = (first_stand, [], refl)
next-is (s ∷ stands) = (s, stands, refl)

module _ (weight : Weight) (all : List Step) (clauses : List Clause) (of : List (List ℕ)) (seen : List Bool) (known : IsIndex clauses of (length seen)) (numbers : List ℕ) (size : length numbers ≡ length seen)
    (forest : Forest) (i : ℕ) (found : List Forks) (sum : ℕ) (before : List Stand) (low : i < length all) (way : Way weight all clauses forest i seen found sum before) where
  abbrev none_step : Step
  none_step = record { var = 0; trees = 0 }

  now : Way weight all clauses forest i seen found sum ((next-is before).0 ∷ (next-is before).1)
  now = subst (λ ss. Way weight all clauses forest i seen found sum ss) (sym (next-is before).2) (way-ready weight all clauses forest i seen found sum before low way)

  pub way-next : (seen_more : List Bool) (sum_more : ℕ) (after : List Stand) → seen_more ≡ set seen (step_at all i).var true
      → ((s : Stand) (stands : List Stand) → s ∷ stands ≡ or_first before → sum_more ≡ sum + weight_of weight s)
      → ((s : Stand) (stands : List Stand) → s ∷ stands ≡ or_first before → after ≡ stands_below clauses of seen numbers (step_at all i) (drop (i + 1) all) s ++ stands)
      → Way weight all clauses forest (i + 1) seen_more (found ++ forks_below clauses of seen numbers (step_at all i) (drop (i + 1) all) (next-is before).0 ∷ []) sum_more after
  way-next seen_more sum_more after n m a =
      let p = next-is before in
      transport (λ j. Way weight all clauses forest (i + 1) (sym n j) (found ++ forks_below clauses of seen numbers (step_at all i) (drop (i + 1) all) p.0 ∷ []) (sym (m p.0 p.1 p.2) j) (sym (a p.0 p.1 p.2) j))
      (way-more weight all clauses of seen known numbers size forest i none_step found sum p.0 p.1 now)

  pub way-past : (top : ℕ) → ((s : Stand) (stands : List Stand) → s ∷ stands ≡ or_first before → top < sum + weight_of weight s) → top < forest_sum weight forest clauses
  way-past top h =
      let p = next-is before in
      omega (arith, h p.0 p.1 p.2, way-most weight all clauses of seen known numbers size forest i none_step found sum p.0 p.1 now)

-- ---- the end

abbrev pub way-last : (weight : Weight) (all : List Step) (clauses : List Clause) (forest : Forest) (i : ℕ) (seen : List Bool) (found : List Forks) (sum : ℕ) (stands : List Stand) → Way weight all clauses forest i seen found sum stands → length all ≤ i
    → (found ≡ forks_on forest (root clauses)) × (sum ≡ forest_sum weight forest clauses)
way-last weight all clauses forest i seen found sum stands ([], none, way) high = (sym (append-nil found) ∙ way.forks, omega (arith, way.total))
way-last weight all clauses forest i seen found sum stands ([], tree v below beside, way) high = absurd (omega (arith, ap length (sym way.steps ∙ drop_all i all high)))
way-last weight all clauses forest i seen found sum stands (it ∷ items, later, way) high = absurd (omega (arith, ap length (sym way.steps ∙ drop_all i all high)))

-- ---- the first place

module _ (weight : Weight) (list : ClauseList) (valid : is_clause_list list ≡ true) (forest : Forest) (is : is_forest_of forest list ≡ true) (size : ℕ) where
  abbrev clauses : List Clause
  clauses = list.clauses

  parts : ((is_once (variables forest) && list_all (fits list.vars) (variables forest)) ≡ true) × (list_all (is_along forest []) list.clauses ≡ true)
  parts = and_parts (is_once (variables forest) && list_all (fits list.vars) (variables forest)) (list_all (is_along forest []) list.clauses) is

  -- a clause of no tree would have no literal
  meets-some : (c : Clause) → is_clause list.vars c ≡ true → is_along forest [] c ≡ true → meets (variables forest) c ≡ false → ⊥
  meets-some [] clause along off = false≢true clause
  meets-some (l ∷ c) clause along off = absurd (grind (arith, along-closed forest [] (l ∷ c), append-nil (variables forest)))

  pub way-first : Way weight (steps_of forest) list.clauses forest 0 (replicate size false) [] 1 []
  way-first = (
    [],
    forest,
    record {
      steps = refl;
      are = tt;
      base = record {
        along = λ n low e. list_all-at (is_along forest []) list.clauses n [] parts.1 low;
        free = λ u e. refl;
        inside = λ u e. e;
        known = (known-root list.clauses (clauses-valid list valid).2 parts.1, tt);
        active = sym (filter-never (range_with_len 0 (length list.clauses))) ∙ filter-within (λ n. false) (λ n. is_active (variables forest) [] (get_or list.clauses n [])) 0 (length list.clauses) (λ n k. sym (none-active (variables forest) (get_or list.clauses n [])));
        states = ap (λ x. x ∷ []) (no-bits list.clauses (map (λ c. true) list.clauses));
      };
      once = (and_parts (is_once (variables forest)) (list_all (fits list.vars) (variables forest)) parts.0).0;
      new = λ u e. no-mark size u;
      forks = refl;
      total = omega arith;
    },
  ) where
    known-root : (cs : List Clause) → list_all (is_clause list.vars) cs ≡ true → list_all (is_along forest []) cs ≡ true → IsKnown (variables forest) [] cs (map (λ c. true) cs)
    known-root [] e f = tt
    known-root (c ∷ cs) e f =
        let p = and_parts (is_clause list.vars c) (list_all (is_clause list.vars) cs) e in
        let q = and_parts (is_along forest [] c) (list_all (is_along forest []) cs) f in
        ((λ off. absurd (meets-some c p.0 q.0 off)), (λ m w. refl), known-root cs p.1 q.1)

    no-bits : (cs : List Clause) (list : List Bool) → [] ≡ state_of (variables forest) [] cs list
    no-bits [] list = refl
    no-bits (c ∷ cs) [] = refl
    no-bits (c ∷ cs) (b ∷ list) = no-bits cs list ∙ ap (λ o. if o then b ∷ state_of (variables forest) [] cs list else state_of (variables forest) [] cs list) (sym (none-active (variables forest) c))

  pub way-begun : (all : List Step) (seen : List Bool) (sum : ℕ) (stands : List Stand) → all ≡ steps_of forest → seen ≡ replicate size false → sum ≡ 1 → stands ≡ []
      → Way weight all list.clauses forest 0 seen [] sum stands
  way-begun all seen sum stands a n m s = transport (λ j. Way weight (sym a j) list.clauses forest 0 (sym n j) [] (sym m j) (sym s j)) way-first
