-- The replacement of a node at its least cost: a literal, either of two, both of two.
use Rattle.std.proofs.Common.{◌≡◌, ℕ, ◌+◌, ◌<◌, ◌≤◌, Bool, true, false, ◌&&◌, ◌||◌, Option, Some, refl, ap, sym, ◌∙◌, subst, arith, eqb, ⊎_elim}
use Rattle.std.proofs.lemmas.Bool.{and_from, or_cases, or_left, or_right, eq-eqb}
use Rattle.state_rules.specs.Bits.{same_bit}
use Rattle.state_rules.specs.Assignments.{Assignment}
use Rattle.node_costs.specs.Costs.{Weights}
use Rattle.node_costs.proofs.Conditions.{cost_among-le, cost_among-one, cost_among-apart, join, joined-le, trim}
use Rattle.minimiser.proofs.Costs.{fault, open_weights, only_parts, free, IsCost, Agrees, faults_in, all_faults, and_left, and_right}

fault_most : (k : Option Bool) (w : ℕ) (b : Bool) → fault k w b ≤ w
fault_most k w b = grind arith

-- what is known of each variable, its cost if it is false, and how many variables have a cost that may not be 0
module _ (known : ℕ → Option Bool) (cost : ℕ → ℕ) (parts : ℕ) where
  abbrev g : Weights
  g = open_weights known cost parts

  -- an assignment that makes a node true at a cost, with no faults except those of another
  pub record Within (t : Assignment → Bool) (c : ℕ) (b : Assignment) : Type 0 where
    pub by : Assignment
    pub agrees : Agrees known cost parts by
    pub holds : t by ≡ true
    pub cheap : all_faults known cost parts by ≤ c
    pub fewer : (v : ℕ) → fault (known v) (cost v) (by v) ≤ fault (known v) (cost v) (b v)

  -- `u` replaces a node with the truth `t` and the variables `m` at its least cost: what makes the node true at that cost makes `u` true,
  -- and the faults of what makes `u` true suffice for the node
  pub record StandsFor (t : Assignment → Bool) (m : ℕ → Bool) (c : ℕ) (u : Assignment → Bool) : Type 0 where
    pub onto : (a : Assignment) → Agrees known cost parts a → t a ≡ true → faults_in known cost parts m a ≤ c → u a ≡ true
    pub back : (b : Assignment) → Agrees known cost parts b → u b ≡ true → Within t c b

  pub StandsFor-same : {t s u w : Assignment → Bool} {m o : ℕ → Bool} {c d : ℕ} → ((a : Assignment) → s a ≡ t a) → ((v : ℕ) → o v ≡ m v) → c ≡ d → ((a : Assignment) → w a ≡ u a)
      → StandsFor t m c u → StandsFor s o d w
  StandsFor-same {m = m} {o = o} {c = c} p q e r is = record {
    onto = λ a ag h few. r a ∙ is.onto a ag (sym (p a) ∙ h) (omega (arith, few, e, cost_among-le g m o a (λ v h. q v ∙ h)));
    back = λ b ag h. let x = is.back b ag (sym (r b) ∙ h) in record { by = x.by; agrees = x.agrees; holds = p x.by ∙ x.holds; cheap = omega (arith, x.cheap, e); fewer = x.fewer };
  }

  -- a node that is true at no cost is left out
  pub stands-free : (none : (v : ℕ) → ((1 ≤ v) → (v < 1 + parts) → ⊥) → cost v ≡ 0) (t : Assignment → Bool) (m : ℕ → Bool) → IsCost known cost parts t m (Some 0) → StandsFor t m 0 (λ a. true)
  stands-free none t m is = record {
    onto = λ a ag h few. refl;
    back = λ b ag h. let r = is.reached 0 refl in record { by = r.by; agrees = r.agrees; holds = r.holds; cheap = r.cheap; fewer = λ v. omega (arith, r.cheap, cost_among-le g (λ u. eqb v u) (λ u. true) r.by (λ u h. refl), cost_among-one g (only_parts known cost parts none) v r.by) };
  }

  -- an open literal that says faulty
  pub stands-literal : (none : (v : ℕ) → ((1 ≤ v) → (v < 1 + parts) → ⊥) → cost v ≡ 0) (var : ℕ) → StandsFor (λ a. same_bit false (a var)) (λ v. eqb var v) (cost var) (λ a. same_bit false (a var))
  stands-literal none var = record {
    onto = λ a ag h few. h;
    back = λ b ag h.
        let x = trim g (free known cost parts) (λ v. eqb var v) b ag in
        record {
          by = x.by;
          agrees = x.agrees;
          holds = ap (same_bit false) (x.same var (eq-eqb var var refl)) ∙ h;
          cheap = omega (arith, x.cost_is (λ v. true) (λ v p. refl), cost_among-one g (only_parts known cost parts none) var b, fault_most (known var) (cost var) (b var));
          fewer = x.fewer;
        };
  }

  pub stands-never : (c : ℕ) → StandsFor (λ a. false) (λ v. false) c (λ a. false)
  stands-never c = record { onto = λ a ag h few. h; back = λ b ag h. absurd (cc) }

  module _ (t s : Assignment → Bool) (m o : ℕ → Bool) where
    left-le : (a : Assignment) → faults_in known cost parts m a ≤ faults_in known cost parts (λ v. m v || o v) a
    left-le a = cost_among-le g m (λ v. m v || o v) a (λ v p. or_left _ _ p)

    right-le : (a : Assignment) → faults_in known cost parts o a ≤ faults_in known cost parts (λ v. m v || o v) a
    right-le a = cost_among-le g o (λ v. m v || o v) a (λ v p. or_right _ _ p)

    -- either of two tests of the same cost
    pub stands-or : (c : ℕ) (u w : Assignment → Bool) → StandsFor t m c u → StandsFor s o c w → StandsFor (λ a. t a || s a) (λ v. m v || o v) c (λ a. u a || w a)
    stands-or c u w x y = record {
      onto = λ a ag h few. ⊎_elim
          (λ p. or_left _ _ (x.onto a ag p (omega (arith, few, left-le a))))
          (λ p. or_right _ _ (y.onto a ag p (omega (arith, few, right-le a))))
          (or_cases (t a) (s a) h);
      back = λ b ag h. ⊎_elim
          (λ p. let r = x.back b ag p in record { by = r.by; agrees = r.agrees; holds = or_left _ _ r.holds; cheap = r.cheap; fewer = r.fewer })
          (λ p. let r = y.back b ag p in record { by = r.by; agrees = r.agrees; holds = or_right _ _ r.holds; cheap = r.cheap; fewer = r.fewer })
          (or_cases (u b) (w b) h);
    }

    -- either of two tests, of which the first costs more, if it can be true at all
    pub stands-other : (c : ℕ) (d : Option ℕ) (w : Assignment → Bool) → IsCost known cost parts t m d → ((n : ℕ) → d ≡ Some n → c < n) → StandsFor s o c w → StandsFor (λ a. t a || s a) (λ v. m v || o v) c w
    stands-other c d w is dear y = record {
      onto = λ a ag h few. ⊎_elim
          (λ p. let least = is.bound a ag p in grind (arith, least, dear, left-le a))
          (λ p. y.onto a ag p (omega (arith, few, right-le a)))
          (or_cases (t a) (s a) h);
      back = λ b ag h. let r = y.back b ag h in record { by = r.by; agrees = r.agrees; holds = or_right _ _ r.holds; cheap = r.cheap; fewer = r.fewer };
    }

    -- both of two tests that share no variable
    pub stands-and : (c d : ℕ) (u w : Assignment → Bool) → ((v : ℕ) → (m v && o v) ≡ false) → IsCost known cost parts t m (Some c) → IsCost known cost parts s o (Some d)
        → StandsFor t m c u → StandsFor s o d w → StandsFor (λ a. t a && s a) (λ v. m v || o v) (c + d) (λ a. u a && w a)
    stands-and c d u w apart is_t is_s x y = record {
      onto = λ a ag h few.
          let p : t a ≡ true = and_left _ _ h in
          let q : s a ≡ true = and_right (t a) _ h in
          let low_t : c ≤ faults_in known cost parts m a = is_t.bound a ag p in
          let low_s : d ≤ faults_in known cost parts o a = is_s.bound a ag q in
          let both = cost_among-apart g m o a apart in
          and_from _ _ (x.onto a ag p (omega (arith, few, low_s, both))) (y.onto a ag q (omega (arith, few, low_t, both)));
      back = λ b ag h.
          let r = x.back b ag (and_left _ _ h) in
          let q = y.back b ag (and_right (u b) _ h) in
          let z = join g m o apart r.by q.by r.agrees q.agrees in
          record {
            by = z.by;
            agrees = z.agrees;
            holds = and_from _ _ (is_t.local z.by r.by z.as_left ∙ r.holds) (is_s.local z.by q.by z.as_right ∙ q.holds);
            cheap = omega (arith, r.cheap, q.cheap, joined-le g m o (λ v. true) r.by q.by z);
            fewer = λ v. ⊎_elim
                (λ (e : z.by v ≡ r.by v). subst (λ y. fault (known v) (cost v) y ≤ fault (known v) (cost v) (b v)) (sym e) (r.fewer v))
                (λ (e : z.by v ≡ q.by v). subst (λ y. fault (known v) (cost v) y ≤ fault (known v) (cost v) (b v)) (sym e) (q.fewer v))
                (z.either v);
          };
    }
