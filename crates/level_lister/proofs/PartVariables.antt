-- Variables to which parts are added one by one.
use Rattle.std.proofs.lemmas.Bool.Decides.{nat_tests}
use Rattle.std.proofs.Common.{◌≡◌, ℕ, ◌+◌, ◌-◌, ◌<◌, ◌≤◌, Bool, true, false, not, ◌&&◌, ◌||◌, List, ◌∙◌, arith, ⊎_elim}
use Rattle.std.specs.Prelude.{◌⊎◌, ◌==◌, nat_le}
use Rattle.std.proofs.lemmas.Bool.{cases_lt, and_parts, and_from, or_cases, or_left, or_right, leb-true, le-leb, lt-ltb, eqb-true, eq-eqb, ne_eqb}
use Rattle.part_sets.specs.Numbers.{has_number}
use Rattle.part_sets.specs.PartSets.{ArePartsOf}

-- `y` has all variables of `x`, and both have the same parts
pub record Wider (parts : ℕ) (x y : ℕ → Bool) : Type 0 where
  pub within : (v : ℕ) → x v ≡ true → y v ≡ true
  pub same : (v : ℕ) → 1 ≤ v → v < 1 + parts → x v ≡ y v

through : (parts : ℕ) (x y z : ℕ → Bool) → Wider parts x y → Wider parts y z → Wider parts x z
through parts x y z a b = record { within = λ v e. b.within v (a.within v e); same = λ v l h. a.same v l h ∙ b.same v l h }

-- `some`, and the variables of `more` up to `n`
abbrev pub grown : (ℕ → Bool) → (ℕ → Bool) → ℕ → ℕ → Bool
grown some more n v = some v || (more v && nat_le v n)

-- whether a number is in `outer` and not in `inner`
abbrev pub is_missing : List ℕ → List ℕ → ℕ → Bool
is_missing outer inner p = has_number outer p && not (has_number inner p)

module _ (parts : ℕ) (some more : ℕ → Bool) (within : (v : ℕ) → some v ≡ true → more v ≡ true) where
  none_yet : Wider parts some (grown some more 0)
  none_yet = grind (arith, nat_tests)

  -- all variables
  pub ended : (n : ℕ) → parts ≤ n → Wider parts (grown some more n) more
  ended n le = grind (arith, nat_tests)

  module _ (outer inner : List ℕ) (on_inner : ArePartsOf parts some inner) (on_outer : ArePartsOf parts more outer) where
    -- whether a part's variable is missing
    missing-is : (p : ℕ) → p < parts → is_missing outer inner p ≡ (more (p + 1) && not (some (p + 1)))
    missing-is p lt = (λ i. on_outer p i && not (on_inner p i)) ∙ (λ i. (lt-ltb p parts lt i && more (p + 1)) && not (lt-ltb p parts lt i && some (p + 1)))

    -- no part from `n` to before `m` is missing
    skipped : (n m : ℕ) → n ≤ m → ((p : ℕ) → n ≤ p → p < m → is_missing outer inner p ≡ false) → Wider parts (grown some more n) (grown some more m)
    skipped n m le none = record {
      within = λ v e. ⊎_elim (λ p. or_left _ _ p) (λ p. let parts = and_parts (more v) (nat_le v n) p in or_right _ _ (and_from _ _ parts.0 (le-leb v m (omega (arith, leb-true v n parts.1))))) (or_cases _ _ e);
      same = λ v l h. by_place v l h (cases_lt n v) (cases_lt m v);
    } where
      by_place : (v : ℕ) → 1 ≤ v → v < 1 + parts → (n < v) ⊎ (v ≤ n) → (m < v) ⊎ (v ≤ m) → grown some more n v ≡ grown some more m v
      by_place v l h p q = grind (arith, nat_tests, missing-is (v - 1), none (v - 1))

    -- a missing part is not among those before it
    pub not_yet : (p : ℕ) → p < parts → is_missing outer inner p ≡ true → grown some more p (p + 1) ≡ false
    not_yet p lt miss = grind (arith, nat_tests, missing-is)

    -- it is added
    added : (p : ℕ) → p < parts → is_missing outer inner p ≡ true → Wider parts (λ v. grown some more p v || (p + 1 == v)) (grown some more (p + 1))
    added p lt miss = grind (arith, nat_tests, eqb-true, eq-eqb, ne_eqb, missing-is)

    -- up to the first missing part, and from an added one up to the next
    pub begun : (n : ℕ) → ((p : ℕ) → 0 ≤ p → p < n → is_missing outer inner p ≡ false) → Wider parts some (grown some more n)
    begun n none = through parts some (grown some more 0) (grown some more n) none_yet (skipped 0 n (omega arith) none)

    pub further : (p n : ℕ) → p < parts → is_missing outer inner p ≡ true → p + 1 ≤ n → ((q : ℕ) → p + 1 ≤ q → q < n → is_missing outer inner q ≡ false)
        → Wider parts (λ v. grown some more p v || (p + 1 == v)) (grown some more n)
    further p n lt miss le none = through parts _ (grown some more (p + 1)) (grown some more n) (added p lt miss) (skipped (p + 1) n le none)
