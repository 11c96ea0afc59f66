-- The least of some costs, and rows of bits for them.
use Rattle.std.proofs.Common.{◌≡◌, ℕ, ◌+◌, ◌-◌, ◌<◌, ◌≤◌, Bool, true, false, ◌&&◌, ◌||◌, Option, Some, None, refl, ap, sym, ◌∙◌, subst, arith, inl, inr, ⊎_elim}
use Rattle.std.specs.Prelude.{◌⊎◌, ◌==◌, nat_le, option_map}
use Rattle.std.proofs.lemmas.Bool.{and_parts, and_from, or_cases, or_left, or_right, le-leb, leb-true, eqb-true, eq-eqb, false≢true}
use Rattle.state_rules.specs.Cases.{agrees_at}
use Rattle.state_rules.proofs.Members.{AtMost}
use Rattle.state_rules.specs.Assignments.{Assignment}
use Rattle.node_costs.specs.Costs.{Weights, cost_among, Local, CostOf, SumOf, IsLeast, IsRow}
use Rattle.node_costs.proofs.Conditions.{LiteralCost, Free, cost_among-le, cost-wider}

-- ---- the least

module _ (C : ℕ → Type 0) where
  pub least-low : (c : Option ℕ) → IsLeast C c → (n : ℕ) → C n → AtMost c n
  least-low None h n x = h n x
  least-low (Some c) h n x = h.1 n x

  pub least-has : (c : Option ℕ) (n : ℕ) → IsLeast C c → c ≡ Some n → C n
  least-has None n h e = absurd (cc)
  least-has (Some c) n h e = let same : c ≡ n = cc in subst C same h.0

  pub least-one : (c d : Option ℕ) → IsLeast C c → IsLeast C d → c ≡ d
  least-one None None h g = refl
  least-one None (Some d) h g = absurd (h d g.0)
  least-one (Some c) None h g = absurd (g c h.0)
  least-one (Some c) (Some d) h g = ap Some (omega (arith, h.1 d g.0, g.1 c h.0))

-- each cost of `C` is one of `D`, and each of `D` is at least some cost of `C`
pub least-as : (C D : ℕ → Type 0) → ((n : ℕ) → C n → D n) → ((n : ℕ) → D n → (k : ℕ) × C k × (k ≤ n)) → (c : Option ℕ) → IsLeast C c → IsLeast D c
least-as C D to from None h = λ n y. let x = from n y in h x.0 x.1
least-as C D to from (Some c) h = (to c h.0, λ n y. let x = from n y in omega (arith, h.1 x.0 x.1, x.2))

pub least-same : (C D : ℕ → Type 0) → ((n : ℕ) → C n → D n) → ((n : ℕ) → D n → C n) → (c : Option ℕ) → IsLeast C c → IsLeast D c
least-same C D to from c h = least-as C D to (λ n y. (n, from n y, omega arith)) c h

module _ (C D : ℕ → Type 0) where
  -- all costs are greater by `more`
  pub least-more : (more : ℕ) → ((n : ℕ) → C n → D (more + n)) → ((n : ℕ) → D n → (k : ℕ) × C k × (more + k ≡ n)) → (c : Option ℕ) → IsLeast C c → IsLeast D (option_map (λ n. more + n) c)
  least-more more to from None h = λ n y. let x = from n y in h x.0 x.1
  least-more more to from (Some c) h = (to c h.0, λ n y. let x = from n y in omega (arith, h.1 x.0 x.1, x.2))

-- more variables do not change it
pub least-wider : (g : Weights) → Free g → (m o : ℕ → Bool) (P : Assignment → Type 0) → ((v : ℕ) → m v ≡ true → o v ≡ true) → Local m P → (c : Option ℕ) → IsLeast (CostOf g m P) c → IsLeast (CostOf g o P) c
least-wider g free m o P within on_p c h = least-as (CostOf g m P) (CostOf g o P) (cost-wider g free m o P within on_p)
    (λ n x. (cost_among g m x.by, record { by = x.by; agrees = x.agrees; meets = x.meets; cost_is = refl }, omega (arith, cost_among-le g m o x.by within, x.cost_is))) c h

-- ---- rows of bits

-- a sum in the other order
pub sum-flip : (C D : ℕ → Type 0) (n : ℕ) → SumOf C D n → SumOf D C n
sum-flip C D n s = record { left = s.right; right = s.left; on_left = s.on_right; on_right = s.on_left; sum_is = omega (arith, s.sum_is) }

module _ (limit : ℕ) where
  pub row-none : (has : ℕ → Bool) (C : ℕ → Type 0) → ((n : ℕ) → n < limit → has n ≡ false) → ((n : ℕ) → C n → ⊥) → IsRow has limit C
  row-none has C none never = record { sound = λ n lt e. absurd (false≢true (sym (none n lt) ∙ e)); whole = λ n lt x. absurd (never n x) }

  pub row-one : (has : ℕ → Bool) (C : ℕ → Type 0) (c : ℕ) → C c → ((n : ℕ) → C n → n ≡ c) → ((n : ℕ) → n < limit → has n ≡ (n == c)) → IsRow has limit C
  row-one has C c x only one = record {
    sound = λ n lt e. let same : n ≡ c = eqb-true n c (sym (one n lt) ∙ e) in subst C (sym same) x;
    whole = λ n lt y. one n lt ∙ eq-eqb n c (only n y);
  }

  pub row-as : (has : ℕ → Bool) (C D : ℕ → Type 0) → ((n : ℕ) → C n → D n) → ((n : ℕ) → D n → C n) → IsRow has limit C → IsRow has limit D
  row-as has C D to from is = record { sound = λ n lt e. to n (is.sound n lt e); whole = λ n lt y. is.whole n lt (from n y) }

  pub row-or : (left right has : ℕ → Bool) (C D : ℕ → Type 0) → ((n : ℕ) → n < limit → has n ≡ (left n || right n)) → IsRow left limit C → IsRow right limit D → IsRow has limit (λ n. C n ⊎ D n)
  row-or left right has C D joined is_c is_d = record {
    sound = λ n lt e. ⊎_elim (λ p. inl (is_c.sound n lt p)) (λ p. inr (is_d.sound n lt p)) (or_cases _ _ (sym (joined n lt) ∙ e));
    whole = λ n lt s. joined n lt ∙ ⊎_elim (λ x. or_left _ _ (is_c.whole n lt x)) (λ y. or_right _ _ (is_d.whole n lt y)) s;
  }

  -- the sums of the costs in two rows
  pub row-sum : (left right has : ℕ → Bool) (C D : ℕ → Type 0) → IsRow has limit (SumOf (λ n. left n ≡ true) (λ n. right n ≡ true)) → IsRow left limit C → IsRow right limit D → IsRow has limit (SumOf C D)
  row-sum left right has C D sums is_c is_d = record {
    sound = λ n lt e. let s = sums.sound n lt e in
        record { left = s.left; right = s.right; on_left = is_c.sound s.left (omega (arith, s.sum_is)) s.on_left; on_right = is_d.sound s.right (omega (arith, s.sum_is)) s.on_right; sum_is = s.sum_is };
    whole = λ n lt s. sums.whole n lt
        (record { left = s.left; right = s.right; on_left = is_c.whole s.left (omega (arith, s.sum_is)) s.on_left; on_right = is_d.whole s.right (omega (arith, s.sum_is)) s.on_right; sum_is = s.sum_is });
  }

  -- one more variable has a bit, if that is allowed
  pub row-bit : (g : Weights) (var : ℕ) (bit : Bool) (left : ℕ → Bool) (C : ℕ → Type 0) → IsRow left limit C
      → IsRow (λ n. agrees_at (g.known var) bit && (nat_le (g.weight var bit) n && left (n - g.weight var bit))) limit (SumOf C (LiteralCost g var bit))
  row-bit g var bit left C is = record {
    sound = λ n lt e.
        let p = and_parts (agrees_at (g.known var) bit) (nat_le more n && left (n - more)) e in
        let q = and_parts (nat_le more n) (left (n - more)) p.1 in
        record { left = n - more; right = more; on_left = is.sound (n - more) (omega arith) q.1; on_right = record { allowed = p.0; weight_is = refl }; sum_is = omega (arith, leb-true more n q.0) };
    whole = λ n lt s.
        let own = s.on_right.weight_is in
        let back : s.left ≡ n - more = omega (arith, own, s.sum_is) in
        and_from _ _ s.on_right.allowed (and_from _ _ (le-leb more n (omega (arith, own, s.sum_is))) (ap left (sym back) ∙ is.whole s.left (omega (arith, s.sum_is)) s.on_left));
  } where
    more : ℕ
    more = g.weight var bit
