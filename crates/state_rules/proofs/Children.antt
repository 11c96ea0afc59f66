-- The children of a node: whether one of them, or at most one, is true. Facts about the nodes below a number.
use Rattle.std.proofs.Common.{◌≡◌, ℕ, zero, suc, ◌+◌, ◌<◌, ◌≤◌, Bool, true, false, ◌&&◌, List, [], ◌∷◌, map, refl, sym, arith}
use Rattle.std.specs.Prelude.{nat_lt}
use Rattle.std.specs.List.{list_any, range_with_len}
use Rattle.std.proofs.lemmas.Bool.{false≢true, and_parts, and_from, lt-ltb, ltb-true}
use Rattle.state_rules.specs.Graphs.{at_most_one}
use Rattle.state_rules.proofs.NodeValues.{are_below}

-- strong induction over the numbers below `n`
pub each_below : (P : ℕ → Type 0) (n : ℕ) → ((i : ℕ) → i < n → ((k : ℕ) → k < i → P k) → P i) → (m : ℕ) → m ≤ n → (k : ℕ) → k < m → P k
each_below P n step zero most k h = absurd (omega arith)
each_below P n step (suc m) most k h = grind (arith, each_below P n step m)

-- ---- one of them

-- if `f` of a child implies `g` of it and `Q`, then `f` of some child implies `g` of some child and `Q`
pub any_more : (Q : Type 0) (f g : ℕ → Bool) (own : ℕ) (kids : List ℕ) → are_below own kids ≡ true → ((k : ℕ) → k < own → f k ≡ true → (g k ≡ true) × Q)
    → list_any (λ b. b) (map f kids) ≡ true → (list_any (λ b. b) (map g kids) ≡ true) × Q
any_more Q f g own [] below more any = absurd (let no : false ≡ true = any in cc)
any_more Q f g own (child ∷ kids) below more any = grind (arith, any_more Q f g own kids)

-- ---- at most one of them

pub at_most_one-none : (bs : List Bool) → list_any (λ b. b) bs ≡ false → at_most_one bs ≡ true
at_most_one-none [] none = refl
at_most_one-none (true ∷ bs) none = absurd (false≢true (sym none))
at_most_one-none (false ∷ bs) none = at_most_one-none bs none

pub at_most_one-tail : (b : Bool) (bs : List Bool) → at_most_one (b ∷ bs) ≡ true → at_most_one bs ≡ true
at_most_one-tail bit bs e = grind (arith, at_most_one-none)

pub not_both : (b : Bool) (bs : List Bool) → at_most_one (b ∷ bs) ≡ true → (b && list_any (λ x. x) bs) ≡ false
not_both bit bs e = grind arith

pub at_most_one-from : (b : Bool) (bs : List Bool) → (list_any (λ x. x) bs ≡ true → b ≡ false) → at_most_one bs ≡ true → at_most_one (b ∷ bs) ≡ true
at_most_one-from bit bs h e = grind arith

-- if `f` implies `g`, at most one child has `f` if at most one has `g`
pub at_most_one-less : (f g : ℕ → Bool) (own : ℕ) (kids : List ℕ) → are_below own kids ≡ true → ((k : ℕ) → k < own → f k ≡ true → g k ≡ true)
    → at_most_one (map g kids) ≡ true → at_most_one (map f kids) ≡ true
at_most_one-less f g own [] below less e = refl
at_most_one-less f g own (child ∷ kids) below less e =
    let parts = and_parts (nat_lt child own) (are_below own kids) below in
    at_most_one-from (f child) (map f kids)
    (λ any. off (f child) (g child) _ (less child (ltb-true child own parts.0)) (any_more (Unit {0}) f g own kids parts.1 (λ k h t. (less k h t, tt)) any).0 (not_both (g child) (map g kids) e))
    (at_most_one-less f g own kids parts.1 less (at_most_one-tail (g child) (map g kids) e)) where
      off : (a b x : Bool) → (a ≡ true → b ≡ true) → x ≡ true → (b && x) ≡ false → a ≡ false
      off false b x h e f = refl
      off true true true h e f = absurd (let no : true ≡ false = f in cc)
      off true true false h e f = absurd (let no : false ≡ true = e in cc)
      off true false x h e f = absurd (let no : false ≡ true = h refl in cc)

-- ---- consecutive numbers

pub range-below : (start len end : ℕ) → start + len ≤ end → are_below end (range_with_len start len) ≡ true
range-below start zero end few = refl
range-below start (suc len) end few = and_from _ _ (lt-ltb start end (omega (arith, few))) (range-below (start + 1) len end (omega (arith, few)))
