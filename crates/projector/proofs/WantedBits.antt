-- Whether the other variables can have bits that make a decomposable graph true, if bits of some are wanted. Computed node by node: a
-- literal can be true unless the other bit is wanted.
use Rattle.std.proofs.Common.{◌≡◌, ℕ, ◌<◌, Bool, true, false, ◌&&◌, ◌||◌, List, Option, refl, sym, ap, ◌∙◌, arith, eqb}
use Rattle.std.specs.List.{list_all, list_any}
use Rattle.std.proofs.lemmas.Bool.{and_parts, and_from, eq-eqb, false≢true}
use Rattle.state_rules.specs.Bits.{same_bit}
use Rattle.state_rules.specs.Assignments.{Assignment}
use Rattle.state_rules.specs.Cases.{agrees_at}
use Rattle.state_rules.specs.declared.nodes.NodeKind.{NodeKind}
use Rattle.node_costs.specs.Costs.{Weights, TestCost, Depends, SumOf, IsRow}
use Rattle.node_costs.specs.Costs as costs
use Rattle.node_costs.proofs.Conditions.{cost_among-none, cost-none, cost-as, cost-literal, literal-costs}
use Rattle.node_costs.proofs.Sets.{row-none, row-one, row-as, row-or, row-sum}
use Rattle.node_costs.proofs.Tests.{cost-any, any-costs, cost-all, all-costs, depends-any, depends-all}
use Rattle.node_costs.proofs.Nodes.{AreLaws, value_by}

-- nothing costs anything
abbrev pub no_weights : (ℕ → Option Bool) → Weights
no_weights wanted = record { known = wanted; weight = λ v b. 0; parts = 0 }

module _ (wanted : ℕ → Option Bool) where
  abbrev g : Weights
  g = no_weights wanted

  abbrev pub Agrees : Assignment → Type 0
  Agrees a = costs.Agrees (no_weights wanted) a

  -- `can` says whether some assignment agrees and passes test `t`, which depends on the variables of `m` alone
  pub record Meets (t : Assignment → Bool) (m : ℕ → Bool) (can : Bool) : Type 0 where
    pub row : IsRow (λ n. can) 1 (TestCost (no_weights wanted) m t)
    pub local : Depends m t

  -- the same for a literal, and for all and any of the children
  abbrev pub can_literal : ℕ → Bool → Bool
  can_literal var positive = agrees_at (wanted var) positive

  abbrev pub all_can : List Bool → Bool
  all_can kids = list_all (λ b. b) kids

  abbrev pub any_can : List Bool → Bool
  any_can kids = list_any (λ b. b) kids

  abbrev pub can_by : NodeKind → List Bool → Bool
  can_by kind kids = value_by can_literal all_can any_can Meets kind kids

  wide : (t : Assignment → Bool) (m o : ℕ → Bool) (can : Bool) → IsRow (λ n. can) 1 (TestCost g m t) → IsRow (λ n. can) 1 (TestCost g o t)
  wide t m o can is = row-as 1 _ _ _ (cost-as g m o _ _ (λ a f e. e) (λ v l h. absurd (omega arith))) (cost-as g o m _ _ (λ a f e. e) (λ v l h. absurd (omega arith))) is

  both : (c d : Bool) → IsRow (λ n. c && d) 1 (SumOf (λ n. c ≡ true) (λ n. d ≡ true))
  both c d = record {
    sound = λ n lt e. let p = and_parts c d e in record { left = n; right = 0; on_left = p.0; on_right = p.1; sum_is = omega arith };
    whole = λ n lt s. and_from c d s.on_left s.on_right;
  }

  one : (n : ℕ) → n < 1 → true ≡ eqb n 0
  one n lt = sym (eq-eqb n 0 (omega arith))

  literal_row : (var : ℕ) (positive can : Bool) → agrees_at (wanted var) positive ≡ can → IsRow (λ n. can) 1 (TestCost g (λ v. eqb var v) (λ a. same_bit positive (a var)))
  literal_row var positive true e = row-one 1 _ _ 0 (cost-literal g (λ v b out. refl) var positive 0 (record { allowed = e; weight_is = refl })) (λ n c. sym (literal-costs g (λ v b out. refl) var positive n c).weight_is) one
  literal_row var positive false e = row-none 1 _ _ (λ n lt. refl) (λ n c. false≢true (sym e ∙ (literal-costs g (λ v b out. refl) var positive n c).allowed))

  pub can_laws : AreLaws can_literal all_can any_can Meets
  can_laws = record {
    of_literal = λ var positive. record { row = literal_row var positive (agrees_at (wanted var) positive) refl; local = λ a b h. ap (same_bit positive) (h var (eq-eqb var var refl)) };
    of_true = record { row = row-one 1 _ _ 0 (cost-none g (λ a. true ≡ true) refl) (λ n c. sym c.cost_is ∙ cost_among-none g c.by) one; local = λ a b h. refl };
    of_false = record { row = row-none 1 _ _ (λ n lt. refl) (λ n c. false≢true c.meets); local = λ a b h. refl };
    of_both = λ t u m o c cs apart is_t is_u. record {
      row = row-as 1 _ _ _ (cost-all g t u m o apart is_t.local is_u.local) (all-costs g t u m o apart is_t.local is_u.local) (row-sum 1 (λ n. c) (λ n. all_can cs) _ _ _ (both c (all_can cs)) is_t.row is_u.row);
      local = depends-all g t u m o is_t.local is_u.local;
    };
    of_either = λ t u m o c cs is_t is_u. record {
      row = row-as 1 _ _ _ (cost-any g t u (λ v. m v || o v)) (any-costs g t u (λ v. m v || o v))
          (row-or 1 (λ n. c) (λ n. any_can cs) _ _ _ (λ n lt. refl) (wide t m (λ v. m v || o v) c is_t.row) (wide u o (λ v. m v || o v) (any_can cs) is_u.row));
      local = depends-any g t u m o is_t.local is_u.local;
    };
  }
