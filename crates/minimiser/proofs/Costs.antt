-- The least cost at which a node is true, from those of its children.
use Rattle.std.proofs.Common.{◌≡◌, ℕ, ◌+◌, ◌<◌, ◌≤◌, Bool, true, false, cond, ◌&&◌, ◌||◌, Option, Some, None, refl, ap, sym, ◌∙◌, subst, arith, eqb}
use Rattle.std.specs.Prelude.{◌⊎◌}
use Rattle.std.proofs.lemmas.Bool.{and_parts, or_left, or_right, eq-eqb, false≢true}
use Rattle.state_rules.specs.Bits.{same_bit}
use Rattle.state_rules.specs.Cases.{agrees_at}
use Rattle.state_rules.specs.Assignments.{Assignment}
use Rattle.state_rules.proofs.Members.{AtMost}
use Rattle.conditioner.specs.Evidence.{leaf_of}
use Rattle.node_costs.specs.Costs.{Weights, cost_among, Depends, TestCost, SumOf, IsLeast}
use Rattle.node_costs.specs.Costs as of
use Rattle.node_costs.proofs.Conditions.{Free, OnlyParts, cost_among-le, cost-none, cost-literal, literal-costs}
use Rattle.node_costs.proofs.Tests.{cost-any, any-costs, cost-all, all-costs, depends-any, depends-all}
use Rattle.node_costs.proofs.Sets.{least-low, least-has, least-same, least-wider}
use Rattle.minimiser.specs.Costs.{add_costs, min_costs, literal_cost}

-- an open variable that is false costs what its part does
abbrev pub fault : Option Bool → ℕ → Bool → ℕ
fault None cost false = cost
fault None cost true = 0
fault (Some b) cost x = 0

-- what is known of each variable, its cost if it is false, and how many variables have a cost that may not be 0
abbrev pub open_weights : (ℕ → Option Bool) → (ℕ → ℕ) → ℕ → Weights
open_weights known cost parts = record { known = known; weight = λ v b. fault (known v) (cost v) b; parts = parts }

pub and_left : (x y : Bool) → (x && y) ≡ true → x ≡ true
and_left x y e = (and_parts x y e).0

pub and_right : (x y : Bool) → (x && y) ≡ true → y ≡ true
and_right x y e = (and_parts x y e).1

pub from_min : (c d : Option ℕ) (n : ℕ) → min_costs c d ≡ Some n → (c ≡ Some n) ⊎ (d ≡ Some n)
from_min c d n e = grind arith

pub record Sum (c d : Option ℕ) (n : ℕ) : Type 0 where
  pub left : ℕ
  pub right : ℕ
  pub left_is : c ≡ Some left
  pub right_is : d ≡ Some right
  pub sum_is : left + right ≡ n

pub from_add : (c d : Option ℕ) (n : ℕ) → add_costs c d ≡ Some n → Sum c d n
from_add c d n e = grind arith

-- ---- the least of two sets of costs

module _ (C D : ℕ → Type 0) where
  pub least-or : (c d : Option ℕ) → IsLeast C c → IsLeast D d → IsLeast (λ n. C n ⊎ D n) (min_costs c d)
  least-or c d h g = grind arith

  pub least-sum : (c d : Option ℕ) → IsLeast C c → IsLeast D d → IsLeast (SumOf C D) (add_costs c d)
  least-sum c d h g = grind arith

-- ---- the nodes

-- a literal has the cost of its bit, if that is allowed
literal_weight : (positive : Bool) (k : Option Bool) (w : ℕ) → literal_cost (leaf_of positive k) w positive ≡ cond (agrees_at k positive) (Some (fault k w positive)) None
literal_weight positive k w = grind arith

module _ (known : ℕ → Option Bool) (cost : ℕ → ℕ) (parts : ℕ) where
  abbrev g : Weights
  g = open_weights known cost parts

  abbrev pub Agrees : Assignment → Type 0
  Agrees a = of.Agrees (open_weights known cost parts) a

  abbrev pub faults_in : (ℕ → Bool) → Assignment → ℕ
  faults_in m a = cost_among (open_weights known cost parts) m a

  abbrev pub all_faults : Assignment → ℕ
  all_faults a = cost_among (open_weights known cost parts) (λ v. true) a

  -- more variables cost no less
  pub faults_in-le : (m o : ℕ → Bool) (a : Assignment) → ((v : ℕ) → m v ≡ true → o v ≡ true) → faults_in m a ≤ faults_in o a
  faults_in-le m o a h = cost_among-le g m o a h

  pub free : Free (open_weights known cost parts)
  free v = grind arith

  pub record Reaches (t : Assignment → Bool) (n : ℕ) : Type 0 where
    pub by : Assignment
    pub agrees : Agrees by
    pub holds : t by ≡ true
    pub cheap : all_faults by ≤ n

  -- The least cost at which a node is true: `t` is its truth, and `m` are the variables that it mentions.
  pub record IsLeastCost (t : Assignment → Bool) (m : ℕ → Bool) (c : Option ℕ) : Type 0 where
    pub least : IsLeast (TestCost (open_weights known cost parts) m t) c
    pub local : Depends m t

  -- so it is a bound, and is reached
  pub record IsCost (t : Assignment → Bool) (m : ℕ → Bool) (c : Option ℕ) : Type 0 where
    pub bound : (a : Assignment) → Agrees a → t a ≡ true → AtMost c (faults_in m a)
    pub reached : (n : ℕ) → c ≡ Some n → Reaches t n
    pub local : Depends m t

  abbrev At : (Assignment → Bool) → (ℕ → Bool) → ℕ → Type 0
  At t m n = TestCost g m t n

  -- more variables do not change it
  pub widened : (t : Assignment → Bool) (m o : ℕ → Bool) (c : Option ℕ) → ((v : ℕ) → m v ≡ true → o v ≡ true) → IsLeastCost t m c → IsLeast (TestCost (open_weights known cost parts) o t) c
  widened t m o c within is = least-wider g free m o (λ a. t a ≡ true) within (λ a b h e. is.local a b h ∙ e) c is.least

  pub as_cost : (t : Assignment → Bool) (m : ℕ → Bool) (c : Option ℕ) → IsLeastCost t m c → IsCost t m c
  as_cost t m c is = record {
    bound = λ a ag h. least-low (At t m) c is.least (faults_in m a) (record { by = a; agrees = ag; meets = h; cost_is = refl });
    reached = λ n e. let r = least-has (At t (λ v. true)) c n (widened t m (λ v. true) c (λ v p. refl) is) e in
        record { by = r.by; agrees = r.agrees; holds = r.meets; cheap = omega (arith, r.cost_is) };
    local = is.local;
  }

  -- a test that is always true costs nothing
  pub true_is : IsLeastCost (λ a. true) (λ v. false) (Some 0)
  true_is = record { least = (cost-none g (λ a. true ≡ true) refl, λ n x. omega arith); local = λ a b h. refl }

  -- a test that is never true has no cost
  pub false_is : IsLeastCost (λ a. false) (λ v. false) None
  false_is = record { least = λ n x. false≢true x.meets; local = λ a b h. refl }

  module _ (t u : Assignment → Bool) (m o : ℕ → Bool) (c d : Option ℕ) (is_t : IsLeastCost t m c) (is_u : IsLeastCost u o d) where
    pub or_is : IsLeastCost (λ a. t a || u a) (λ v. m v || o v) (min_costs c d)
    or_is = record {
      least = least-same (λ n. At t (λ v. m v || o v) n ⊎ At u (λ v. m v || o v) n) (At (λ a. t a || u a) (λ v. m v || o v)) (cost-any g t u _) (any-costs g t u _)
          (min_costs c d) (least-or _ _ c d (widened t m (λ v. m v || o v) c (λ v p. or_left _ _ p) is_t) (widened u o (λ v. m v || o v) d (λ v p. or_right _ _ p) is_u));
      local = depends-any g t u m o is_t.local is_u.local;
    }

    -- both of two tests that share no variable
    pub and_is : ((v : ℕ) → (m v && o v) ≡ false) → IsLeastCost (λ a. t a && u a) (λ v. m v || o v) (add_costs c d)
    and_is apart = record {
      least = least-same (SumOf (At t m) (At u o)) (At (λ a. t a && u a) (λ v. m v || o v)) (cost-all g t u m o apart is_t.local is_u.local) (all-costs g t u m o apart is_t.local is_u.local)
          (add_costs c d) (least-sum (At t m) (At u o) c d is_t.least is_u.least);
      local = depends-all g t u m o is_t.local is_u.local;
    }

  -- the cost of a literal; a variable of no part costs nothing
  module _ (none : (v : ℕ) → ((1 ≤ v) → (v < 1 + parts) → ⊥) → cost v ≡ 0) where
    pub only_parts : OnlyParts (open_weights known cost parts)
    only_parts v b out = grind arith

    pub literal_is : (var : ℕ) (positive : Bool) → IsLeastCost (λ a. same_bit positive (a var)) (λ v. eqb var v) (literal_cost (leaf_of positive (known var)) (cost var) positive)
    literal_is var positive = record {
      least = subst (IsLeast (At (λ a. same_bit positive (a var)) (λ v. eqb var v))) (sym (literal_weight positive (known var) (cost var))) (by_test (agrees_at (known var) positive) refl);
      local = λ a b h. ap (same_bit positive) (h var (eq-eqb var var refl));
    } where
      by_test : (b : Bool) → agrees_at (known var) positive ≡ b → IsLeast (At (λ a. same_bit positive (a var)) (λ v. eqb var v)) (cond b (Some (fault (known var) (cost var) positive)) None)
      by_test true e = (cost-literal g only_parts var positive _ (record { allowed = e; weight_is = refl }), λ n x. omega (arith, (literal-costs g only_parts var positive n x).weight_is))
      by_test false e = λ n x. false≢true (sym e ∙ (literal-costs g only_parts var positive n x).allowed)
