-- The costs of a compound condition.
use Rattle.std.proofs.Common.{◌≡◌, ℕ, ◌+◌, ◌<◌, ◌≤◌, Bool, true, false, cond, ◌&&◌, ◌||◌, refl, ap, sym, ◌∙◌, subst, arith, eqb, inl, inr, ⊎_elim}
use Rattle.std.specs.Prelude.{◌⊎◌}
use Rattle.std.proofs.lemmas.Bool.{eqb-true, eq-eqb, cases_lt, cases_cond, false≢true, false_from_ne_true, and_parts}
use Rattle.state_rules.specs.Assignments.{Assignment}
use Rattle.state_rules.specs.Cases.{agrees_at}
use Rattle.state_rules.specs.Bits.{same_bit}
use Rattle.state_rules.proofs.Bits.{not_left, same_bit-refl, same_bit-equal}
use Rattle.state_rules.proofs.Cases.{usual_bit, usual_bit-agrees, agrees_cond}
use Rattle.node_costs.specs.Costs.{Weights, cost_among, Agrees, Local, CostOf, SumOf}
use Rattle.node_costs.proofs.Totals.{total-same, total-le, total-add, total-none, total-one, total-off}

-- no variable is in both sets
abbrev pub Apart : (ℕ → Bool) → (ℕ → Bool) → Type 0
Apart m o = (v : ℕ) → (m v && o v) ≡ false

-- a variable that is not in a set is apart from it
pub one_apart : (m : ℕ → Bool) (var : ℕ) → m var ≡ false → Apart m (λ v. eqb var v)
one_apart m var out v = false_from_ne_true (m v && eqb var v) (λ h. let p = and_parts (m v) (eqb var v) h in false≢true (sym out ∙ ap m (eqb-true var v p.1) ∙ p.0))

-- ---- one variable

like_cond : (p : Bool) (n k : ℕ) → (p ≡ true → n ≡ k) → cond p n 0 ≡ cond p k 0
like_cond true n k h = h refl
like_cond false n k h = refl

fewer_cond : (p q : Bool) (n : ℕ) → (p ≡ true → q ≡ true) → cond p n 0 ≤ cond q n 0
fewer_cond true true n h = omega arith
fewer_cond true false n h = absurd (false≢true (h refl))
fewer_cond false q n h = omega arith

apart_cond : (p q : Bool) (n : ℕ) → (p && q) ≡ false → cond (p || q) n 0 ≡ cond p n 0 + cond q n 0
apart_cond true true n e = absurd (cc)
apart_cond true false n e = omega arith
apart_cond false q n e = omega arith

module _ (g : Weights) where
  -- ---- the cost of an assignment

  pub cost_among-same : (m o : ℕ → Bool) (a b : Assignment) → ((v : ℕ) → 1 ≤ v → v < 1 + g.parts → cond (m v) (g.weight v (a v)) 0 ≡ cond (o v) (g.weight v (b v)) 0) → cost_among g m a ≡ cost_among g o b
  cost_among-same m o a b h = total-same (λ v. cond (m v) (g.weight v (a v)) 0) (λ v. cond (o v) (g.weight v (b v)) 0) 1 g.parts h

  pub cost_among-like : (m : ℕ → Bool) (a b : Assignment) → ((v : ℕ) → m v ≡ true → a v ≡ b v) → cost_among g m a ≡ cost_among g m b
  cost_among-like m a b h = cost_among-same m m a b (λ v l u. like_cond (m v) (g.weight v (a v)) (g.weight v (b v)) (λ p. ap (g.weight v) (h v p)))

  pub cost_among-le : (m o : ℕ → Bool) (a : Assignment) → ((v : ℕ) → m v ≡ true → o v ≡ true) → cost_among g m a ≤ cost_among g o a
  cost_among-le m o a h = total-le _ _ (λ v. fewer_cond (m v) (o v) (g.weight v (a v)) (h v)) 1 g.parts

  pub cost_among-apart : (m o : ℕ → Bool) (a : Assignment) → Apart m o → cost_among g (λ v. m v || o v) a ≡ cost_among g m a + cost_among g o a
  cost_among-apart m o a apart = total-add (λ v. cond (m v) (g.weight v (a v)) 0) (λ v. cond (o v) (g.weight v (a v)) 0) (λ v. cond (m v || o v) (g.weight v (a v)) 0) (λ v. apart_cond (m v) (o v) (g.weight v (a v)) (apart v)) 1 g.parts

  -- ---- two assignments as one

  pub record Joined (m o : ℕ → Bool) (a b : Assignment) : Type 0 where
    pub by : Assignment
    pub agrees : Agrees g by
    pub as_left : (v : ℕ) → m v ≡ true → by v ≡ a v
    pub as_right : (v : ℕ) → o v ≡ true → by v ≡ b v
    pub either : (v : ℕ) → (by v ≡ a v) ⊎ (by v ≡ b v)

  pub join : (m o : ℕ → Bool) → Apart m o → (a b : Assignment) → Agrees g a → Agrees g b → Joined m o a b
  join m o apart a b ag bg = record {
    by = λ v. cond (m v) (a v) (b v);
    agrees = λ v. agrees_cond (g.known v) (m v) _ _ (ag v) (bg v);
    as_left = λ v p. ap (λ x. cond x (a v) (b v)) p;
    as_right = λ v p. ap (λ x. cond x (a v) (b v)) (not_left (m v) (o v) (apart v) p);
    either = λ v. cases_cond (m v) (a v) (b v) (cond (m v) (a v) (b v)) refl;
  }

  -- it costs at most as much as both
  pub joined-le : (m o n : ℕ → Bool) (a b : Assignment) (x : Joined m o a b) → cost_among g n x.by ≤ cost_among g n a + cost_among g n b
  joined-le m o n a b x =
      let f : ℕ → ℕ = λ v. cond (n v) (g.weight v (a v)) 0 in
      let h : ℕ → ℕ = λ v. cond (n v) (g.weight v (b v)) 0 in
      omega (arith, total-le (λ v. cond (n v) (g.weight v (x.by v)) 0) (λ v. f v + h v) (λ v. ⊎_elim (λ e. at v e) (λ e. at' v e) (x.either v)) 1 g.parts, total-add f h (λ v. f v + h v) (λ v. refl) 1 g.parts) where
        at : (v : ℕ) → x.by v ≡ a v → cond (n v) (g.weight v (x.by v)) 0 ≤ cond (n v) (g.weight v (a v)) 0 + cond (n v) (g.weight v (b v)) 0
        at v e = omega (arith, ap (λ y. cond (n v) (g.weight v y) 0) e)

        at' : (v : ℕ) → x.by v ≡ b v → cond (n v) (g.weight v (x.by v)) 0 ≤ cond (n v) (g.weight v (a v)) 0 + cond (n v) (g.weight v (b v)) 0
        at' v e = omega (arith, ap (λ y. cond (n v) (g.weight v y) 0) e)

  -- ---- both of two conditions that share no variable

  pub cost-and : (m o : ℕ → Bool) (P Q : Assignment → Type 0) → Apart m o → Local m P → Local o Q → (n : ℕ) → SumOf (CostOf g m P) (CostOf g o Q) n → CostOf g (λ v. m v || o v) (λ a. P a × Q a) n
  cost-and m o P Q apart on_p on_q n s =
      let p = s.on_left in
      let q = s.on_right in
      let x = join m o apart p.by q.by p.agrees q.agrees in
      record {
        by = x.by;
        agrees = x.agrees;
        meets = (on_p x.by p.by x.as_left p.meets, on_q x.by q.by x.as_right q.meets);
        cost_is = omega (arith, cost_among-apart m o x.by apart, cost_among-like m x.by p.by x.as_left, cost_among-like o x.by q.by x.as_right, p.cost_is, q.cost_is, s.sum_is);
      }

  pub and-costs : (m o : ℕ → Bool) (P Q : Assignment → Type 0) → Apart m o → (n : ℕ) → CostOf g (λ v. m v || o v) (λ a. P a × Q a) n → SumOf (CostOf g m P) (CostOf g o Q) n
  and-costs m o P Q apart n c = record {
    left = cost_among g m c.by;
    right = cost_among g o c.by;
    on_left = record { by = c.by; agrees = c.agrees; meets = c.meets.0; cost_is = refl };
    on_right = record { by = c.by; agrees = c.agrees; meets = c.meets.1; cost_is = refl };
    sum_is = sym (cost_among-apart m o c.by apart) ∙ c.cost_is;
  }

  -- ---- the same condition, or one that follows

  pub cost-as : (m o : ℕ → Bool) (P Q : Assignment → Type 0) → ((a : Assignment) → Agrees g a → P a → Q a) → ((v : ℕ) → 1 ≤ v → v < 1 + g.parts → m v ≡ o v) → (n : ℕ) → CostOf g m P n → CostOf g o Q n
  cost-as m o P Q to same n c = record {
    by = c.by;
    agrees = c.agrees;
    meets = to c.by c.agrees c.meets;
    cost_is = cost_among-same o m c.by c.by (λ v l h. ap (λ b. cond b (g.weight v (c.by v)) 0) (sym (same v l h))) ∙ c.cost_is;
  }

  pub cost-to : (m : ℕ → Bool) (P Q : Assignment → Type 0) → ((a : Assignment) → P a → Q a) → (n : ℕ) → CostOf g m P n → CostOf g m Q n
  cost-to m P Q to n c = cost-as m m P Q (λ a ag p. to a p) (λ v l h. refl) n c

  -- ---- one of two conditions of the same variables

  pub or-costs : (m : ℕ → Bool) (P Q : Assignment → Type 0) (n : ℕ) → CostOf g m (λ a. P a ⊎ Q a) n → CostOf g m P n ⊎ CostOf g m Q n
  or-costs m P Q n c = ⊎_elim
      (λ p. inl (record { by = c.by; agrees = c.agrees; meets = p; cost_is = c.cost_is }))
      (λ q. inr (record { by = c.by; agrees = c.agrees; meets = q; cost_is = c.cost_is })) c.meets

  pub cost-or : (m : ℕ → Bool) (P Q : Assignment → Type 0) (n : ℕ) → CostOf g m P n ⊎ CostOf g m Q n → CostOf g m (λ a. P a ⊎ Q a) n
  cost-or m P Q n s = ⊎_elim (λ c. cost-to m P (λ a. P a ⊎ Q a) (λ a p. inl p) n c) (λ c. cost-to m Q (λ a. P a ⊎ Q a) (λ a q. inr q) n c) s

  -- ---- what is known, and true if nothing is

  abbrev pub usual : Assignment
  usual v = usual_bit (g.known v)

  pub usual-agrees : Agrees g usual
  usual-agrees v = usual_bit-agrees (g.known v)

  pub cost_among-none : (a : Assignment) → cost_among g (λ v. false) a ≡ 0
  cost_among-none a = total-none 1 g.parts

  pub cost-none : (P : Assignment → Type 0) → P usual → CostOf g (λ v. false) P 0
  cost-none P p = record { by = usual; agrees = usual-agrees; meets = p; cost_is = cost_among-none usual }

  -- ---- one variable

  -- variables that are not parts cost nothing
  abbrev pub OnlyParts : Type 0
  OnlyParts = (v : ℕ) (b : Bool) → (1 ≤ v → v < 1 + g.parts → ⊥) → g.weight v b ≡ 0

  pub cost_among-one : OnlyParts → (var : ℕ) (a : Assignment) → cost_among g (λ v. eqb var v) a ≡ g.weight var (a var)
  cost_among-one only_parts var a = ⊎_elim
      (λ (p : var < 1). off (λ l h. omega arith))
      (λ (p : 1 ≤ var). ⊎_elim
      (λ (q : var < 1 + g.parts). total-one (λ v. g.weight v (a v)) var 1 g.parts p q)
      (λ (q : 1 + g.parts ≤ var). off (λ l h. omega arith))
      (cases_lt var (1 + g.parts)))
      (cases_lt var 1) where
        off : (1 ≤ var → var < 1 + g.parts → ⊥) → cost_among g (λ v. eqb var v) a ≡ g.weight var (a var)
        off out = total-off (λ v. g.weight v (a v)) var 1 g.parts out ∙ sym (only_parts var (a var) out)

  pub record LiteralCost (var : ℕ) (bit : Bool) (n : ℕ) : Type 0 where
    pub allowed : agrees_at (g.known var) bit ≡ true
    pub weight_is : g.weight var bit ≡ n

  pub bit-costs : OnlyParts → (var : ℕ) (bit : Bool) (n : ℕ) → CostOf g (λ v. eqb var v) (λ a. a var ≡ bit) n → LiteralCost var bit n
  bit-costs only_parts var bit n c = record {
    allowed = subst (λ b. agrees_at (g.known var) b ≡ true) c.meets (c.agrees var);
    weight_is = ap (g.weight var) (sym c.meets) ∙ sym (cost_among-one only_parts var c.by) ∙ c.cost_is;
  }

  pub cost-bit : OnlyParts → (var : ℕ) (bit : Bool) (n : ℕ) → LiteralCost var bit n → CostOf g (λ v. eqb var v) (λ a. a var ≡ bit) n
  cost-bit only_parts var bit n is = record {
    by = set_to;
    agrees = λ v. by_test v (eqb var v) refl;
    meets = here;
    cost_is = cost_among-one only_parts var set_to ∙ ap (g.weight var) here ∙ is.weight_is;
  } where
    set_to : Assignment
    set_to v = cond (eqb var v) bit (usual v)

    here : set_to var ≡ bit
    here = ap (λ b. cond b bit (usual var)) (eq-eqb var var refl)

    by_test : (v : ℕ) (b : Bool) → eqb var v ≡ b → agrees_at (g.known v) (set_to v) ≡ true
    by_test v true e = rw e (subst (λ u. agrees_at (g.known u) bit ≡ true) (eqb-true _ _ e) is.allowed)
    by_test v false e = rw e (usual-agrees v)

  pub literal-costs : OnlyParts → (var : ℕ) (bit : Bool) (n : ℕ) → CostOf g (λ v. eqb var v) (λ a. same_bit bit (a var) ≡ true) n → LiteralCost var bit n
  literal-costs only_parts var bit n c = bit-costs only_parts var bit n (cost-to _ _ _ (λ a e. sym (same_bit-equal bit (a var) e)) n c)

  pub cost-literal : OnlyParts → (var : ℕ) (bit : Bool) (n : ℕ) → LiteralCost var bit n → CostOf g (λ v. eqb var v) (λ a. same_bit bit (a var) ≡ true) n
  cost-literal only_parts var bit n is = cost-to _ _ _ (λ a e. ap (same_bit bit) e ∙ same_bit-refl bit) n (cost-bit only_parts var bit n is)

  -- ---- one variable more

  module _ (only_parts : OnlyParts) (m : ℕ → Bool) (P : Assignment → Type 0) (var : ℕ) (out : m var ≡ false) (on_p : Local m P) where
    -- with this bit
    pub cost-set : (bit : Bool) (n : ℕ) → SumOf (CostOf g m P) (LiteralCost var bit) n → CostOf g (λ v. m v || eqb var v) (λ a. P a × (a var ≡ bit)) n
    cost-set bit n s = cost-and m (λ v. eqb var v) P (λ a. a var ≡ bit) (one_apart m var out) on_p (λ a b h e. h var (eq-eqb var var refl) ∙ e) n
        (record { left = s.left; right = s.right; on_left = s.on_left; on_right = cost-bit only_parts var bit s.right s.on_right; sum_is = s.sum_is })

    pub set-costs : (bit : Bool) (n : ℕ) → CostOf g (λ v. m v || eqb var v) (λ a. P a × (a var ≡ bit)) n → SumOf (CostOf g m P) (LiteralCost var bit) n
    set-costs bit n c =
        let s = and-costs m (λ v. eqb var v) P (λ a. a var ≡ bit) (one_apart m var out) n c in
        record { left = s.left; right = s.right; on_left = s.on_left; on_right = bit-costs only_parts var bit s.right s.on_right; sum_is = s.sum_is }

    -- with either bit
    pub cost-either : (n : ℕ) → SumOf (CostOf g m P) (LiteralCost var true) n ⊎ SumOf (CostOf g m P) (LiteralCost var false) n → CostOf g (λ v. m v || eqb var v) P n
    cost-either n s = ⊎_elim (λ x. cost-to _ _ _ (λ a p. p.0) n (cost-set true n x)) (λ x. cost-to _ _ _ (λ a p. p.0) n (cost-set false n x)) s

    pub either-costs : (n : ℕ) → CostOf g (λ v. m v || eqb var v) P n → SumOf (CostOf g m P) (LiteralCost var true) n ⊎ SumOf (CostOf g m P) (LiteralCost var false) n
    either-costs n c = by_bit (c.by var) refl where
      with_bit : (bit : Bool) → c.by var ≡ bit → SumOf (CostOf g m P) (LiteralCost var bit) n
      with_bit bit e = set-costs bit n (record { by = c.by; agrees = c.agrees; meets = (c.meets, e); cost_is = c.cost_is })

      by_bit : (bit : Bool) → c.by var ≡ bit → SumOf (CostOf g m P) (LiteralCost var true) n ⊎ SumOf (CostOf g m P) (LiteralCost var false) n
      by_bit true e = inl (with_bit true e)
      by_bit false e = inr (with_bit false e)

  -- ---- more variables

  -- each variable has a bit that is allowed and costs nothing
  abbrev pub Free : Type 0
  Free = (v : ℕ) → g.weight v (usual v) ≡ 0

  -- an assignment that is `a` on the variables `m`, and usual elsewhere
  pub record Trimmed (m : ℕ → Bool) (a : Assignment) : Type 0 where
    pub by : Assignment
    pub agrees : Agrees g by
    pub same : (v : ℕ) → m v ≡ true → by v ≡ a v
    pub cost_is : (o : ℕ → Bool) → ((v : ℕ) → m v ≡ true → o v ≡ true) → cost_among g o by ≡ cost_among g m a
    pub fewer : (v : ℕ) → g.weight v (by v) ≤ g.weight v (a v)

  pub trim : Free → (m : ℕ → Bool) (a : Assignment) → Agrees g a → Trimmed m a
  trim free m a ag = record {
    by = λ v. cond (m v) (a v) (usual v);
    agrees = λ v. agrees_cond (g.known v) (m v) _ _ (ag v) (usual-agrees v);
    same = λ v p. ap (λ b. cond b (a v) (usual v)) p;
    cost_is = λ o within. cost_among-same o m (λ v. cond (m v) (a v) (usual v)) a (λ v l h. each v (m v) (o v) (within v));
    fewer = λ v. less v (m v);
  } where
    each : (v : ℕ) (p q : Bool) → (p ≡ true → q ≡ true) → cond q (g.weight v (cond p (a v) (usual v))) 0 ≡ cond p (g.weight v (a v)) 0
    each v true true h = refl
    each v true false h = absurd (false≢true (h refl))
    each v false true h = free v
    each v false false h = refl

    less : (v : ℕ) (p : Bool) → g.weight v (cond p (a v) (usual v)) ≤ g.weight v (a v)
    less v true = omega arith
    less v false = omega (arith, free v)

  pub cost-wider : Free → (m o : ℕ → Bool) (P : Assignment → Type 0) → ((v : ℕ) → m v ≡ true → o v ≡ true) → Local m P → (n : ℕ) → CostOf g m P n → CostOf g o P n
  cost-wider free m o P within on_p n c =
      let x = trim free m c.by c.agrees in
      record { by = x.by; agrees = x.agrees; meets = on_p x.by c.by x.same c.meets; cost_is = x.cost_is o within ∙ c.cost_is }
