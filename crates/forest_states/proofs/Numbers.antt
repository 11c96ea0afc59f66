-- Clauses by their numbers.
use Rattle.std.proofs.Common.{◌≡◌, ℕ, zero, suc, ◌+◌, ◌<◌, ◌≤◌, ◌-◌, Bool, true, cond, List, [], ◌∷◌, map, length, reverse, get_or, add-one, refl, ap, sym, ◌∙◌, arith}
use Rattle.std.specs.Prelude.{nat_lt}
use Rattle.std.specs.List.{filter, list_all, range_with_len, AllByRecursion}
use Rattle.std.proofs.lemmas.List.{reverse-append}
use Rattle.std.proofs.lemmas.List.{ext_get_or}
use Rattle.std.proofs.lemmas.List.FromFn.{get_or-map-range_with_len, length-map-range_with_len, map-range_with_len_more}
use Rattle.clause_encoder.specs.Clauses.{Clause, var_of}
use Rattle.forest_states.specs.inner.Descents.{has_var}

-- ---- what is kept

pub filter-within : (p q : ℕ → Bool) (a n : ℕ) → ((k : ℕ) → k < a + n → p k ≡ q k) → filter p (range_with_len a n) ≡ filter q (range_with_len a n)
filter-within p q a zero same = refl
filter-within p q a (suc n) same = let rest = filter-within p q (a + 1) n (λ k h. same k (omega arith)) in λ i. cond (same a (omega arith) i) (a ∷ rest i) (rest i)

pub map-within : {X : Type 0} (f g : ℕ → X) (p : ℕ → Bool) (a n : ℕ) → ((k : ℕ) → k < a + n → p k ≡ true → f k ≡ g k) → map f (filter p (range_with_len a n)) ≡ map g (filter p (range_with_len a n))
map-within f g p a zero same = refl
map-within f g p a (suc n) same = grind (arith, same a (omega arith), map-within f g p (a + 1) n (λ k h. same k (omega arith)))

filter-mapped : (f : ℕ → Clause) (test : Clause → Bool) (ns : List ℕ) → filter test (map f ns) ≡ map f (filter (λ n. test (f n)) ns)
filter-mapped f test [] = refl
filter-mapped f test (n ∷ ns) = grind (arith, filter-mapped f test ns)

-- the clauses that pass, by their numbers
pub passing : (clauses : List Clause) (test : Clause → Bool) → filter test clauses ≡ map (λ n. get_or clauses n []) (filter (λ n. test (get_or clauses n [])) (range_with_len 0 (length clauses)))
passing clauses test =
    let at = λ (n : ℕ). get_or clauses n [] in
    let all = ext_get_or [] clauses (map at (range_with_len 0 (length clauses))) (sym (length-map-range_with_len at 0 (length clauses))) (λ i low. sym (get_or-map-range_with_len at 0 (length clauses) i i [] low (omega arith))) in
    ap (filter test) all ∙ filter-mapped (λ n. get_or clauses n []) test (range_with_len 0 (length clauses))

-- what holds at each number
pub each-at : (P : Clause → Type 0) (cs : List Clause) → ((n : ℕ) → n < length cs → P (get_or cs n [])) → AllByRecursion P cs
each-at P [] h = tt
each-at P (c ∷ cs) h = (h 0 (omega arith), each-at P cs (λ n low. h (suc n) (omega (arith, low))))

-- ---- numbers counted down

back : {X : Type 0} (f : ℕ → X) (k n : ℕ) → n ≤ k → reverse (map (λ i. f (k - 1 - i)) (range_with_len 0 n)) ≡ map f (range_with_len (k - n) n)
back f k zero low = refl
back f k (suc n) low =
    let g = λ (i : ℕ). f (k - 1 - i) in
    let first : k - 1 - n ≡ k - suc n = omega (arith, low) in
    let next : k - n ≡ k - suc n + 1 = omega (arith, low) in
    ap (λ m. reverse (map g (range_with_len 0 m))) (sym (add-one n))
    ∙ ap reverse (map-range_with_len_more g 0 n n (omega arith))
    ∙ reverse-append (map g (range_with_len 0 n)) (g n ∷ [])
    ∙ (λ j. f (first j) ∷ (back f k n (omega (arith, low)) ∙ ap (λ a. map f (range_with_len a n)) next) j)

pub back-all : {X : Type 0} (f : ℕ → X) (k n : ℕ) → n ≤ k → k ≤ n → reverse (map (λ i. f (k - 1 - i)) (range_with_len 0 n)) ≡ map f (range_with_len 0 k)
back-all f k n low high =
    let same : n ≡ k = omega (arith, low, high) in
    let none : k - k ≡ 0 = omega arith in
    ap (λ m. reverse (map (λ i. f (k - 1 - i)) (range_with_len 0 m))) same ∙ back f k k (omega arith) ∙ ap (λ a. map f (range_with_len a k)) none

-- `of` has the clauses of each variable, and the variables are below `size`
pub record IsIndex (clauses : List Clause) (of : List (List ℕ)) (size : ℕ) : Type 0 where
  pub each : (v : ℕ) → get_or of v [] ≡ filter (λ n. has_var v (get_or clauses n [])) (range_with_len 0 (length clauses))
  pub small : (n : ℕ) → n < length clauses → list_all (λ l. nat_lt (var_of l) size) (get_or clauses n []) ≡ true
