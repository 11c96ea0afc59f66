-- Sums over variables.
use Rattle.std.proofs.Common.{◌≡◌, ℕ, zero, suc, ◌+◌, ◌<◌, ◌≤◌, cond, refl, arith, eqb, ap, ◌∙◌, ⊎_elim, ◌≢◌}
use Rattle.std.proofs.lemmas.Bool.{eq-eqb, ne_eqb, cases_eq}
use Rattle.node_costs.specs.Costs.{total}

pub total-same : (f g : ℕ → ℕ) (a n : ℕ) → ((v : ℕ) → a ≤ v → v < a + n → f v ≡ g v) → total f a n ≡ total g a n
total-same f g a zero h = refl
total-same f g a (suc n) h = omega (arith, h a (omega arith) (omega arith), total-same f g (a + 1) n (λ v l m. h v (omega arith) (omega arith)))

pub total-le : (f g : ℕ → ℕ) → ((v : ℕ) → f v ≤ g v) → (a n : ℕ) → total f a n ≤ total g a n
total-le f g h a zero = omega arith
total-le f g h a (suc n) = omega (arith, h a, total-le f g h (a + 1) n)

pub total-add : (f g h : ℕ → ℕ) → ((v : ℕ) → h v ≡ f v + g v) → (a n : ℕ) → total h a n ≡ total f a n + total g a n
total-add f g h e a zero = refl
total-add f g h e a (suc n) = omega (arith, e a, total-add f g h e (a + 1) n)

pub total-none : (a n : ℕ) → total (λ v. 0) a n ≡ 0
total-none a zero = refl
total-none a (suc n) = omega (arith, total-none (a + 1) n)

-- of one variable that is not among them
pub total-off : (f : ℕ → ℕ) (var a n : ℕ) → (a ≤ var → var < a + n → ⊥) → total (λ u. cond (eqb var u) (f u) 0) a n ≡ 0
total-off f var a n h = total-same (λ u. cond (eqb var u) (f u) 0) (λ v. 0) a n (λ v l m. ap (λ b. cond b (f v) 0) (ne_eqb var v (λ e. h (omega arith) (omega arith)))) ∙ total-none a n

-- and of one that is
pub total-one : (f : ℕ → ℕ) (var a n : ℕ) → a ≤ var → var < a + n → total (λ u. cond (eqb var u) (f u) 0) a n ≡ f var
total-one f var a zero h g = absurd (omega arith)
total-one f var a (suc n) h g = ⊎_elim
    (λ (e : var ≡ a). omega (arith, ap (λ b. cond b (f a) 0) (eq-eqb var a e), ap f e, total-off f var (a + 1) n (λ l m. absurd (omega arith))))
    (λ (ne : var ≢ a). omega (arith, ap (λ b. cond b (f a) 0) (ne_eqb var a ne), total-one f var (a + 1) n (omega arith) (omega arith)))
    (cases_eq var a)
