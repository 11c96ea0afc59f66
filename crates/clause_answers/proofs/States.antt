-- The states of the parts, from bits of all variables.
use Rattle.std.proofs.Common.{◌≡◌, ℕ, ◌-◌, ◌<◌, ◌≤◌, Bool, true, false, ◌&&◌, List, [], ◌∷◌, ◌++◌, length, take, drop, Option, Some, None, ℤ, pos, negsuc, refl, sym, ap, ◌∙◌, subst, arith, length-append, length-drop}
use Rattle.std.proofs.lemmas.Bool.{and_parts, and_from, leb-true, le-leb}
use Rattle.std.proofs.lemmas.List.{take-append-drop, length-take-le}
use Rattle.std.proofs.Math.Seq.{take-append_seam}
use Rattle.state_rules.specs.Bits.{bit_in, same_bit, lists_of_bits}
use Rattle.state_rules.specs.Assignments.{assignment}
use Rattle.state_rules.specs.Ranking.{Test, cost, least, passing, is_at_most, states}
use Rattle.state_rules.proofs.Members.{In, In-filter, In-filtered, bits_in, bits_length, any_from, any_in}
use Rattle.node_costs.specs.Costs.{StateCost}
use Rattle.node_costs.proofs.States.{least-in, least-out}
use Rattle.clause_encoder.specs.Clauses.{ClauseList, all_hold, literal}
use Rattle.conditioner.specs.Models.{fits_evidence}
use Rattle.clause_search.specs.Searching.{all_true}
use Rattle.clause_answers.specs.Questions.{Question, has_model, models, least_under, least_with, diagnoses_under}
use Rattle.clause_answers.specs.inner.Asking.{Fits, cost_of, IsLeast, IsMinimum}
use Rattle.clause_answers.specs.inner.Listed.{Meets, Shows}

-- ---- what completes a state

-- bits that begin with a state, pass a test and make all clauses true
pub record Completes (cnf : ClauseList) (parts : ℕ) (test : Test) (h : List Bool) : Type 0 where
  pub bits : List Bool
  pub long : length bits ≡ cnf.vars
  pub passes : test bits ≡ true
  pub holds : all_hold (assignment bits) cnf.clauses ≡ true
  pub begins : take parts bits ≡ h

module _ (cnf : ClauseList) (parts : ℕ) (test : Test) (within : parts ≤ cnf.vars) where
  pub model-from : (h : List Bool) → Completes cnf parts test h → has_model cnf test parts h ≡ true
  model-from h c =
      let whole : h ++ drop parts c.bits ≡ c.bits = ap (λ k. k ++ drop parts c.bits) (sym c.begins) ∙ take-append-drop parts c.bits in
      let rest : length (drop parts c.bits) ≡ cnf.vars - parts = length-drop parts c.bits ∙ ap (λ n. n - parts) c.long in
      any_in (λ others. test (h ++ others) && all_hold (assignment (h ++ others)) cnf.clauses) (drop parts c.bits) (lists_of_bits (cnf.vars - parts))
      (subst (λ n. In (drop parts c.bits) (lists_of_bits n)) rest (bits_in (drop parts c.bits)))
      (subst (λ bits. (test bits && all_hold (assignment bits) cnf.clauses) ≡ true) (sym whole) (and_from _ _ c.passes c.holds))

  pub model-to : (h : List Bool) → length h ≡ parts → has_model cnf test parts h ≡ true → Completes cnf parts test h
  model-to h long e =
      let r = any_from (λ others. test (h ++ others) && all_hold (assignment (h ++ others)) cnf.clauses) (lists_of_bits (cnf.vars - parts)) e in
      let both = and_parts (test (h ++ r.item)) (all_hold (assignment (h ++ r.item)) cnf.clauses) r.passes in
      record {
        bits = h ++ r.item;
        long = omega (arith, length-append h r.item, bits_length (cnf.vars - parts) r.item r.is_in);
        passes = both.0;
        holds = both.1;
        begins = ap (λ n. take n (h ++ r.item)) (sym long) ∙ take-append_seam h r.item;
      }

-- ---- the least cost

module _ (q : Question) (within : length q.costs ≤ q.cnf.vars) (test : Test) (extra : List ℤ)
    (means : (bits : List Bool) → test bits ≡ (fits_evidence q.evidence bits && all_true (assignment bits) extra)) where
  -- what completes a state fits, and makes the literals true
  completes-fits : (h : List Bool) → (c : Completes q.cnf (length q.costs) test h) → Fits q c.bits × (all_true (assignment c.bits) extra ≡ true)
  completes-fits h c =
      let both = and_parts (fits_evidence q.evidence c.bits) (all_true (assignment c.bits) extra) (sym (means c.bits) ∙ c.passes) in
      (record { long = c.long; agrees = both.0; holds = c.holds }, both.1)

  fits-completes : (bits : List Bool) → Fits q bits → all_true (assignment bits) extra ≡ true → Completes q.cnf (length q.costs) test (take (length q.costs) bits)
  fits-completes bits f e = record { bits = bits; long = f.long; passes = means bits ∙ and_from _ _ f.agrees e; holds = f.holds; begins = refl }

  begin-long : (bits : List Bool) → Fits q bits → length (take (length q.costs) bits) ≡ length q.costs
  begin-long bits f = length-take-le (length q.costs) bits (omega (arith, f.long))

  abbrev passes : Test
  passes = has_model q.cnf test (length q.costs)

  pub minimum-least : (bits : List Bool) (r : Option ℕ) → IsMinimum q extra bits r → r ≡ least q.costs (passing (length q.costs) passes)
  minimum-least bits None none = sym (least-in q.costs (length q.costs) passes None (λ n s.
      let c = model-to q.cnf (length q.costs) test within s.state s.long s.passes in
      let f = completes-fits s.state c in
      let no : false ≡ true = sym (none c.bits f.0) ∙ f.1 in cc))
  minimum-least bits (Some n) m = sym (least-in q.costs (length q.costs) passes (Some n) (
    record {
      state = take (length q.costs) bits;
      long = begin-long bits m.fits;
      passes = model-from q.cnf (length q.costs) test within _ (fits-completes bits m.fits m.true_);
      cost_is = m.costs;
    },
    λ k s.
        let c = model-to q.cnf (length q.costs) test within s.state s.long s.passes in
        let f = completes-fits s.state c in
        omega (arith, m.bound c.bits f.0 f.1, ap (cost q.costs) c.begins, s.cost_is),
  ))
