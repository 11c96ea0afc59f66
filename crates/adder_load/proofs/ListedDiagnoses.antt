-- The diagnoses that are found in turn are those of the list, in its order.
use Rattle.std.proofs.Common.{◌≡◌, ℕ, zero, suc, ◌+◌, ◌-◌, ◌<◌, ◌≤◌, Bool, true, false, List, [], ◌∷◌, length, get_or, take, drop, drop-cons, Some, refl, ap, sym, ◌∙◌, arith, inl, inr}
use Rattle.std.specs.Prelude.{◌⊎◌}
use Rattle.std.specs.List.{filter}
use Rattle.std.proofs.lemmas.List.{length-drop, length-take, get_or_past}
use Rattle.state_rules.specs.Ranking.{cost, is_at_most, is_before, rest, states}
use Rattle.state_rules.specs.Graphs.{Graph}
use Rattle.state_rules.proofs.Members.{In, In-at, In-filter, In-filtered, least-from}
use Rattle.state_rules.proofs.Order.{not_both_before, Sorted, Sorted-states, Sorted-filter}
use Rattle.conditioner.specs.Models.{has_model, fits_evidence, models, least_under, diagnoses_under}
use Rattle.diagnosis_lister.specs.declared.listing.Step.{Step}
use Rattle.diagnosis_lister.specs.declared.listing.Step.TheVariants.{Found, End, Inconsistent}
use Rattle.diagnosis_lister.specs.Listing.{step_of}

-- ---- what is after an item of a sorted list

not_before_itself : (h : List Bool) → is_before h h ≡ false
not_before_itself [] = refl
not_before_itself (b ∷ h) = grind (arith, not_before_itself h)

not_after : (h k : List Bool) → is_before h k ≡ true → is_before k h ≡ false
not_after h k before = grind (arith, not_both_before h k)

keeps_all : {A : Type 0} (p : A → Bool) (xs : List A) → ((y : A) → In y xs → p y ≡ true) → filter p xs ≡ xs
keeps_all p [] all = refl
keeps_all p (x ∷ xs) all = grind (arith, all x (inl refl), keeps_all p xs (λ y m. all y (inr m)))

rest-at : (ds : List (List Bool)) (k : ℕ) (d : List Bool) → Sorted ds → k < length ds → filter (is_before (get_or ds k d)) ds ≡ drop (suc k) ds
rest-at [] k d sorted below = absurd (omega arith)
rest-at (x ∷ xs) zero d sorted below = grind (arith, not_before_itself x, keeps_all (is_before x) xs sorted.0)
rest-at (x ∷ xs) (suc k) d sorted below = grind (arith, not_after, In-at, rest-at xs k d)

drop_first : {A : Type 0} (n : ℕ) (xs : List A) (d e : A) → n < length xs → get_or (drop n xs) 0 d ≡ get_or xs n e
drop_first n xs d e below = grind (arith, drop-cons)

-- a list that is not empty has the same first item for each default
pub same_first : {A : Type 0} (xs : List A) (d e : A) → 0 < length xs → get_or xs 0 d ≡ get_or xs 0 e
same_first [] d e some = absurd (omega arith)
same_first (x ∷ xs) d e some = refl

some_in : {A : Type 0} (x : A) (xs : List A) → In x xs → 0 < length xs
some_in x [] m = absurd m
some_in x (y ∷ xs) m = omega arith

-- ---- the diagnoses of a graph

module _ (graph : Graph) (evidence costs : List ℕ) where
  abbrev ms : List (List Bool)
  ms = models graph evidence (length costs)

  abbrev ds : List (List Bool)
  ds = diagnoses_under graph evidence costs

  sorted : Sorted (diagnoses_under graph evidence costs)
  sorted = Sorted-filter (λ h. is_at_most (cost costs h) (least_under graph evidence costs)) ms (Sorted-filter (has_model graph (fits_evidence evidence) (length costs)) (states (length costs)) (Sorted-states (length costs)))

  -- if there is a least cost, there is one
  pub some_diagnosis : (fewest : ℕ) → Some fewest ≡ least_under graph evidence costs → 0 < length (diagnoses_under graph evidence costs)
  some_diagnosis fewest is =
      let one = least-from (cost costs) (λ _. true) fewest ms (rw (keeps_all (λ _. true) ms (λ y m. refl)) (sym is)) in
      some_in one.item ds (In-filtered (λ h. is_at_most (cost costs h) (least_under graph evidence costs)) one.item ms one.is_in (grind (arith, one.is_size)))

  -- the point is the last of `count`
  module _ (count : ℕ) (point : List Bool) (some : 1 ≤ count) (there : count ≤ length (diagnoses_under graph evidence costs)) (is : point ≡ get_or (diagnoses_under graph evidence costs) (count - 1) []) where
    behind : rest (diagnoses_under graph evidence costs) (Some point) ≡ drop count (diagnoses_under graph evidence costs)
    behind =
        let back : suc (count - 1) ≡ count = omega (arith, some) in
        ap (λ p. filter (is_before p) ds) is ∙ rest-at ds (count - 1) [] sorted (omega (arith, some, there)) ∙ ap (λ n. drop n ds) back

    some_model : 0 < length ms
    some_model =
        let m = In-at ds (count - 1) [] (omega arith) in
        some_in (get_or ds (count - 1) []) ms (In-filter (λ h. is_at_most (cost costs h) (least_under graph evidence costs)) (get_or ds (count - 1) []) ms m).0

    tells : (hs later : List (List Bool)) → 0 < length hs → ((step_of hs later ≡ End) × (length later ≡ 0)) ⊎ ((step_of hs later ≡ Found) × (0 < length later))
    tells [] later some = absurd (omega arith)
    tells (h ∷ hs) [] some = inl (refl, refl)
    tells (h ∷ hs) (d ∷ later) some = inr (refl, omega arith)

    pub one_more : Found ≡ step_of (models graph evidence (length costs)) (rest (diagnoses_under graph evidence costs) (Some point)) → count + 1 ≤ length (diagnoses_under graph evidence costs)
    one_more found = grind (arith, behind, length-drop count ds, tells ms (rest ds (Some point)) some_model)

    pub next_is : (new d : List Bool) → count + 1 ≤ length (diagnoses_under graph evidence costs) → new ≡ get_or (rest (diagnoses_under graph evidence costs) (Some point)) 0 d
        → new ≡ get_or (diagnoses_under graph evidence costs) (count + 1 - 1) []
    next_is new d more next = grind (arith, behind, drop_first count ds d [])

    -- there is no further one
    pub all_listed : (step : Step) → step ≡ step_of (models graph evidence (length costs)) (rest (diagnoses_under graph evidence costs) (Some point)) → (step ≡ End) ⊎ (step ≡ Inconsistent)
        → length (diagnoses_under graph evidence costs) ≡ count
    all_listed step is ends = grind (arith, behind, length-drop count ds, tells ms (rest ds (Some point)) some_model)

    -- and the point stays
    pub stays : (new : List Bool) → length (diagnoses_under graph evidence costs) ≡ count → new ≡ get_or (rest (diagnoses_under graph evidence costs) (Some point)) 0 point
        → new ≡ get_or (diagnoses_under graph evidence costs) (count - 1) []
    stays new all next = grind (arith, behind, length-drop, get_or_past)

-- all are taken if they are at most as many as were asked for
pub taken_all : {A : Type 0} (most count : ℕ) (xs : List A) → length xs ≡ count → count ≤ most → count ≡ length (take most xs)
taken_all most count xs long few = let is = length-take most xs in grind (arith, long, few, is)
