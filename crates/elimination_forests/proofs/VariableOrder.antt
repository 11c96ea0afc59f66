-- The order of the variables, and which of them are assigned at a level.
use Rattle.std.proofs.Common.{◌≡◌, ℕ, zero, suc, ◌+◌, ◌<◌, Bool, true, false, not, cond, List, [], ◌∷◌, length, get_or, ℤ, refl, ap, arith}
use Rattle.std.specs.Prelude.{◌==◌, nat_lt}
use Rattle.std.specs.List.{list_any, filter}
use Rattle.std.proofs.lemmas.Bool.{not-true, ltb-true, lt-ltb, eq-eqb, ne_eqb}
use Rattle.std.proofs.lemmas.Bool.Decides.{nat_tests}
use Rattle.state_rules.proofs.Members.{In, In-at, In-filter}
use Rattle.clause_encoder.specs.Clauses.{Clause, var_of}
use Rattle.elimination_forests.specs.Branches.{first_met, same_variable, place, has_true, is_left, is_covered}
use Rattle.elimination_forests.proofs.Lists.{all-in, all-at, none-in, any-none}

-- ---- each variable once

abbrev pub AllOnce : List ℕ → Type 0
AllOnce [] = Unit {0}
AllOnce (v ∷ vs) = (list_any (λ u. u == v) vs ≡ false) × AllOnce vs

once-filter : (q : ℕ → Bool) (vs : List ℕ) → AllOnce vs → AllOnce (filter q vs)
once-filter q [] h = tt
once-filter q (v ∷ vs) h = grind (arith, once-filter q vs h.1, any-none (λ u. u == v) (filter q vs) (λ u m. none-in (λ u. u == v) u vs h.0 (In-filter q u vs m).0))

pub first_met-once : (vs : List ℕ) → AllOnce (first_met same_variable vs)
first_met-once [] = tt
first_met-once (v ∷ vs) =
    let others = first_met same_variable vs in (
      any-none (λ u. u == v) (filter (λ u. not (u == v)) others) (λ u m. not-true (u == v) (In-filter (λ u. not (u == v)) u others m).1),
      once-filter (λ u. not (u == v)) others (first_met-once vs),
    )

pub place-at : (vs : List ℕ) (k : ℕ) → AllOnce vs → k < length vs → place vs (get_or vs k 0) ≡ k
place-at [] k once h = absurd (omega arith)
place-at (v ∷ vs) zero once h = ap (λ t. cond (not t) (1 + place vs v) 0) (eq-eqb v v refl)
place-at (v ∷ vs) (suc k) once h = grind (arith, nat_tests, place-at vs k once.1 (omega arith), none-in (λ u. u == v) (get_or vs k 0) vs once.0 (In-at vs k 0 (omega arith)))

-- ---- clauses without an assigned variable, and clauses with all variables assigned

further : (t : Bool) (k i : ℕ) → nat_lt (cond (not t) (1 + k) 0) (suc i) ≡ false → (t ≡ false) × (nat_lt k i ≡ false)
further t k i e = grind arith

-- A clause without an assigned variable is left.
pub untouched-left : (vs : List ℕ) (bits : List Bool) (c : Clause) → ((l : ℤ) → In l c → nat_lt (place vs (var_of l)) (length bits) ≡ false) → is_left vs bits c ≡ true
untouched-left [] bits c h = refl
untouched-left (v ∷ vs) [] c h = refl
untouched-left (v ∷ vs) (bit ∷ bits) c h = grind (arith, any-none, untouched-left vs bits)

-- A clause whose variables are all assigned does not have the next one.
pub covered-without : (vs : List ℕ) (i : ℕ) (bit : Bool) (c : Clause) → AllOnce vs → i < length vs → is_covered vs i c ≡ true → has_true (get_or vs i 0) bit c ≡ false
covered-without vs i bit c once h e = grind (arith, nat_tests, any-none, ltb-true, all-at, ne_eqb, place-at)

pub covered-more : (vs : List ℕ) (i : ℕ) (c : Clause) → is_covered vs i c ≡ true → is_covered vs (i + 1) c ≡ true
covered-more vs i c e = grind (arith, nat_tests, all-in, lt-ltb, ltb-true, all-at)
