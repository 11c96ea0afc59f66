-- The order of states, and the first of a list.
use Rattle.std.proofs.Common.{◌≡◌, ℕ, zero, suc, ◌<◌, Bool, true, false, List, [], ◌∷◌, ◌++◌, map, length, get_or, refl, sym, subst, arith, inl, inr, ⊎_elim}
use Rattle.std.specs.Prelude.{◌⊎◌}
use Rattle.std.specs.List.{filter}
use Rattle.state_rules.specs.Bits.{bit_in, lists_of_bits, AlikeBelow}
use Rattle.state_rules.specs.Ranking.{is_before}
use Rattle.state_rules.proofs.Members.{In, In-append, from_map, In-filter}

pub before-at : (h k : List Bool) (n : ℕ) → n < length h → n < length k → AlikeBelow n h k → bit_in h n ≡ false → bit_in k n ≡ true → is_before h k ≡ true
before-at [] k n l m alike e f = absurd (omega arith)
before-at (b ∷ h) [] n l m alike e f = absurd (omega arith)
before-at (false ∷ h) (true ∷ k) n l m alike e f = grind arith
before-at (false ∷ h) (false ∷ k) zero l m alike e f = absurd (cc)
before-at (true ∷ h) (c ∷ k) zero l m alike e f = absurd (cc)
before-at (false ∷ h) (false ∷ k) (suc n) l m alike e f = before-at h k n (omega arith) (omega arith) (λ i g. alike (suc i) (omega arith)) e f
before-at (true ∷ h) (true ∷ k) (suc n) l m alike e f = before-at h k n (omega arith) (omega arith) (λ i g. alike (suc i) (omega arith)) e f
before-at (true ∷ h) (false ∷ k) (suc n) l m alike e f = let same : true ≡ false = alike zero (omega arith) in absurd (cc)

-- the first place at which two states differ: there the earlier state is faulty
pub record Differs (h k : List Bool) : Type 0 where
  pub at : ℕ
  pub within : at < length h
  pub alike : AlikeBelow at h k
  pub faulty : bit_in h at ≡ false
  pub ok : bit_in k at ≡ true

pub differs : (h k : List Bool) → is_before h k ≡ true → Differs h k
differs [] k e = absurd (cc)
differs (bit ∷ h) [] e = grind arith
differs (false ∷ h) (true ∷ k) e = record { at = 0; within = omega arith; alike = λ i g. absurd (omega arith); faulty = refl; ok = refl }
differs (true ∷ h) (false ∷ k) e = absurd (cc)
differs (false ∷ h) (false ∷ k) e = let d = differs h k e in later d where
  later : Differs h k → Differs (false ∷ h) (false ∷ k)
  later d = record { at = suc d.at; within = omega (arith, d.within); alike = both d.alike; faulty = d.faulty; ok = d.ok } where
    both : {n : ℕ} → AlikeBelow n h k → AlikeBelow (suc n) (false ∷ h) (false ∷ k)
    both a zero g = refl
    both a (suc i) g = a i (omega arith)
differs (true ∷ h) (true ∷ k) e = let d = differs h k e in later d where
  later : Differs h k → Differs (true ∷ h) (true ∷ k)
  later d = record { at = suc d.at; within = omega (arith, d.within); alike = both d.alike; faulty = d.faulty; ok = d.ok } where
    both : {n : ℕ} → AlikeBelow n h k → AlikeBelow (suc n) (true ∷ h) (true ∷ k)
    both a zero g = refl
    both a (suc i) g = a i (omega arith)

pub not_both_before : (h k : List Bool) → is_before h k ≡ true → is_before k h ≡ true → ⊥
not_both_before [] k e f = cc
not_both_before (bit ∷ h) [] e f = grind arith
not_both_before (false ∷ h) (true ∷ k) e f = cc
not_both_before (true ∷ h) (false ∷ k) e f = cc
not_both_before (false ∷ h) (false ∷ k) e f = not_both_before h k e f
not_both_before (true ∷ h) (true ∷ k) e f = not_both_before h k e f

pub same_bits : (h k : List Bool) → length h ≡ length k → AlikeBelow (length h) h k → h ≡ k
same_bits [] [] e alike = refl
same_bits [] (c ∷ k) e alike = absurd (omega arith)
same_bits (b ∷ h) [] e alike = absurd (omega arith)
same_bits (b ∷ h) (c ∷ k) e alike =
    let one : b ≡ c = alike zero (omega arith) in
    let more : h ≡ k = same_bits h k (omega arith) (λ i g. alike (suc i) (omega arith)) in λ i. one i ∷ more i

-- whether each state is before all that follow it
abbrev pub Sorted : List (List Bool) → Type 0
Sorted [] = Unit {0}
Sorted (x ∷ xs) = ((y : List Bool) → In y xs → is_before x y ≡ true) × Sorted xs

Sorted-append : (xs ys : List (List Bool)) → Sorted xs → Sorted ys → ((x y : List Bool) → In x xs → In y ys → is_before x y ≡ true) → Sorted (xs ++ ys)
Sorted-append [] ys s t h = t
Sorted-append (x ∷ xs) ys s t h = (
  λ y m. ⊎_elim (λ p. s.0 y p) (λ p. h x y (inl refl) p) (In-append y xs ys m),
  Sorted-append xs ys s.1 t (λ a y p q. h a y (inr p) q),
)

front-before : (b : Bool) (x y : List Bool) → is_before x y ≡ true → is_before (b ∷ x) (b ∷ y) ≡ true
front-before bit x y e = grind arith

Sorted-map : (b : Bool) (xs : List (List Bool)) → Sorted xs → Sorted (map (λ bs. b ∷ bs) xs)
Sorted-map b [] s = tt
Sorted-map b (x ∷ xs) s = (
  λ y m. let r = from_map (λ bs. b ∷ bs) y xs m in subst (λ z. is_before (b ∷ x) z ≡ true) (sym r.gives) (front-before b x r.item (s.0 r.item r.is_in)),
  Sorted-map b xs s.1,
)

pub Sorted-states : (n : ℕ) → Sorted (lists_of_bits n)
Sorted-states zero = (λ y m. absurd m, tt)
Sorted-states (suc n) = Sorted-append _ _ (Sorted-map false (lists_of_bits n) (Sorted-states n)) (Sorted-map true (lists_of_bits n) (Sorted-states n)) (λ x y p q.
    let r = from_map (λ bs. false ∷ bs) x (lists_of_bits n) p in
    let s = from_map (λ bs. true ∷ bs) y (lists_of_bits n) q in
    (λ i. is_before (r.gives i) (s.gives i)))

pub Sorted-filter : (p : List Bool → Bool) (xs : List (List Bool)) → Sorted xs → Sorted (filter p xs)
Sorted-filter p [] s = tt
Sorted-filter p (x ∷ xs) s = grind (arith, In-filter, Sorted-filter p xs s.1)

-- the state that is before all others is the first of a sorted list
pub first-sorted : (xs : List (List Bool)) (h d : List Bool) → Sorted xs → In h xs → ((k : List Bool) → In k xs → (k ≡ h) ⊎ (is_before h k ≡ true)) → get_or xs 0 d ≡ h
first-sorted [] h d s m low = absurd m
first-sorted (x ∷ xs) h d s m low = grind (arith, not_both_before)
