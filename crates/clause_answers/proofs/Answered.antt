-- Answers about bits, from those of a search.
use Rattle.std.proofs.Common.{◌≡◌, ℕ, ◌+◌, ◌-◌, ◌<◌, ◌≤◌, Bool, true, false, List, [], ◌∷◌, length, get_or, take, ℤ, Option, Some, None, refl, ap, sym, ◌∙◌, subst, inl, inr, arith}
use Rattle.std.specs.Prelude.{nat_le}
use Rattle.std.proofs.lemmas.Bool.{cases_lt}
use Rattle.std.proofs.lemmas.Bool.Decides.{nat_tests}
use Rattle.state_rules.specs.Bits.{same_bit}
use Rattle.state_rules.specs.Assignments.{Assignment, assignment}
use Rattle.state_rules.specs.Ranking.{cost}
use Rattle.clause_encoder.specs.Clauses.{ClauseList}
use Rattle.conditioner.specs.Models.{total_cost}
use Rattle.minimiser.specs.declared.pass.TheConstants.{TOTAL_LIMIT}
use Rattle.minimiser.proofs.Held.{total-drop}
use Rattle.clause_search.specs.Searching.{Rules, IsModel, Refutes, all_true, false_weight, keeps, priced, first_rules}
use Rattle.clause_answers.specs.declared.weights.Weights.{Weights}
use Rattle.clause_answers.specs.Questions.{Question}
use Rattle.clause_answers.specs.inner.Known.{Knows, AreTrue}
use Rattle.clause_answers.specs.inner.Asking.{Asked, Fits, cost_of, IsMinimum, IsFound, NoneFound, LeastFrom, Lowered}
use Rattle.clause_answers.specs.inner.Weighing.{Weighs, IsFresh, IsReached}
use Rattle.clause_answers.specs.inner.Carrying.{asked, first_two, IsOracle}
use Rattle.clause_answers.proofs.CarriedBits.{Ready, carried, cut}
use Rattle.clause_answers.proofs.Settled.{weighs-fresh, settled-parts, settled-bounds, says-most, says-less}

pub reached : (rules : Rules) (evidence : List ℕ) (literals assumed : List ℤ) (model : List Bool) → IsModel rules assumed model
    → ((a : Assignment) → all_true a assumed ≡ true → Knows a evidence (length evidence)) → ((a : Assignment) → all_true a assumed ≡ true → all_true a literals ≡ true)
    → IsReached rules evidence literals model
reached rules evidence literals assumed model m known others =
    record { long = omega (arith, m.long); kept = m.kept; knows = known (assignment model) m.assumed; true_ = others (assignment model) m.assumed }

both-false : (p q r : Bool) → p ≡ q → (p ≡ true → r ≡ true) → r ≡ false → q ≡ false
both-false true q r e f g = absurd (let h = f refl in grind arith)
both-false false q r e f g = sym e

most-true : (b : Bool) (n most : ℕ) → same_bit b (nat_le n most) ≡ true → n ≤ most → b ≡ true
most-true b n most e h = grind (arith, nat_tests)

less-false : (b : Bool) (n low : ℕ) → same_bit b (nat_le n (low - 1)) ≡ true → low ≤ n → 0 < low → b ≡ false
less-false b n low e h p = grind (arith, nat_tests)

is-most : (b : Bool) (n most : ℕ) → same_bit b (nat_le n most) ≡ true → b ≡ true → n ≤ most
is-most b n most e h = grind (arith, nat_tests)

is-less : (b above : Bool) (n low : ℕ) → same_bit b (nat_le n (low - 1)) ≡ true → (above ≡ false → low ≡ 0) → (above ≡ true → b ≡ false) → low ≤ n
is-less b true n low e z h = let f = h refl in grind (arith, nat_tests)
is-less b false n low e z h = omega (arith, z refl)

module _ (s : Asked) (rules : Rules) (costs evidence : List ℕ) (literals : List ℤ) (low high : ℕ) (r : Ready s rules costs evidence literals low high) where
  pub none-weighted : (weights : Weights) (assumed : List ℤ) → Weighs rules costs evidence [] weights → high ≤ weights.lower → Refutes rules assumed
      → ((a : Assignment) → Knows a evidence (length evidence) → all_true a literals ≡ true → AreTrue a 0 weights.parts.items (length weights.parts.items)
      → AreTrue a (length evidence) weights.bounds.items (length weights.bounds.items) → all_true a assumed ≡ true) → NoneFound s literals
  none-weighted weights assumed w less refuted enough = subst (λ (x : Asked). NoneFound x literals) r.view (λ others f lo hi.
      (let k = carried s rules costs evidence literals low high r others f in
      let cheap : false_weight k.to (priced 1 costs) ≤ weights.lower = omega (arith, k.costs_, hi, less) in
      let bounds = subst (λ (n : ℕ). AreTrue k.to n weights.bounds.items (length weights.bounds.items)) (sym r.known) (settled-bounds rules costs evidence weights r.even w k.to k.kept k.knows cheap) in
      both-false _ _ _ k.same (λ t. enough k.to k.knows t (settled-parts rules costs evidence weights r.even w k.to k.kept k.knows cheap) bounds) (refuted k.to k.kept)))

  pub none-ranged : (is_above : Bool) (assumed : List ℤ) → take 2 rules.members ≡ first_two costs → get_or rules.limits 0 0 ≡ high → get_or rules.limits 1 0 ≡ low - 1 → (is_above ≡ true → 0 < low) → Refutes rules assumed
      → ((a : Assignment) → Knows a evidence (length evidence) → all_true a literals ≡ true → a (length evidence + 1) ≡ true → (is_above ≡ true → a (length evidence + 2) ≡ false) → all_true a assumed ≡ true) → NoneFound s literals
  none-ranged is_above assumed first m l above refuted enough = subst (λ (x : Asked). NoneFound x literals) r.view (λ others f lo hi.
      (let k = carried s rules costs evidence literals low high r others f in
      let most = says-most rules costs k.to r.even first k.kept (length evidence) high r.known m in
      let less = says-less rules costs k.to r.even first k.kept (length evidence) (low - 1) r.known l in
      both-false _ _ _ k.same
      (λ t. enough k.to k.knows t (most-true _ _ _ most (omega (arith, k.costs_, hi))) (λ b. less-false _ _ low less (omega (arith, k.costs_, lo)) (above b)))
      (refuted k.to k.kept)))

  pub found-ranged : (final : Rules) (model bits : List Bool) (is_above : Bool) → final ≡ rules → take 2 rules.members ≡ first_two costs → get_or rules.limits 0 0 ≡ high → get_or rules.limits 1 0 ≡ low - 1
      → (is_above ≡ false → low ≡ 0) → IsReached rules evidence literals model → assignment model (length evidence + 1) ≡ true → (is_above ≡ true → assignment model (length evidence + 2) ≡ false)
      → bits ≡ take rules.cnf.vars model → IsFound (record { question = asked final costs evidence; low = low; high = high; bits = bits }) literals
  found-ranged final model bits is_above e first m l above t most less is = subst (λ (x : Rules). IsFound (record { question = asked x costs evidence; low = low; high = high; bits = bits }) literals) (sym e)
      (let c = cut s rules costs evidence literals low high r model bits t is in
      record {
        fits = c.fits;
        low = rw (← c.priced_) (is-less _ is_above _ low (says-less rules costs (assignment model) r.even first t.kept (length evidence) (low - 1) r.known l) above less);
        high = rw (← c.priced_) (is-most _ _ high (says-most rules costs (assignment model) r.even first t.kept (length evidence) high r.known m) most);
        true_ = c.true_;
      })

  pub found-weighted : (final : Rules) (model bits : List Bool) → final ≡ rules → IsReached rules evidence literals model → low ≤ cost costs (take (length costs) model) → cost costs (take (length costs) model) ≤ high
      → bits ≡ take rules.cnf.vars model → IsFound (record { question = asked final costs evidence; low = low; high = high; bits = bits }) literals
  found-weighted final model bits e t lo hi is = subst (λ (x : Rules). IsFound (record { question = asked x costs evidence; low = low; high = high; bits = bits }) literals) (sym e)
      (let c = cut s rules costs evidence literals low high r model bits t is in
      record { fits = c.fits; low = omega (arith, lo, c.costs_); high = omega (arith, hi, c.costs_); true_ = c.true_ })

  pub none-minimum : (bits : List Bool) (answer : Option ℕ) → None ≡ answer → ((a : Assignment) → keeps rules a ≡ true → Knows a evidence (length evidence) → all_true a literals ≡ false) → IsMinimum s.question literals bits answer
  none-minimum bits answer e none = subst (λ (n : Option ℕ). IsMinimum s.question literals bits n) e (subst (λ (x : Asked). IsMinimum x.question literals bits None) r.view (λ others f.
      (let k = carried s rules costs evidence literals low high r others f in
      sym k.same ∙ none k.to k.kept k.knows)))

  pub least-minimum : (weights : Weights) (model bits : List Bool) (answer : Option ℕ) → Weighs rules costs evidence literals weights → IsReached rules evidence literals model
      → cost costs (take (length costs) model) ≤ weights.lower → bits ≡ take rules.cnf.vars model → Some (cost costs (take (length costs) bits)) ≡ answer → IsMinimum s.question literals bits answer
  least-minimum weights model bits answer w t cheap is e = subst (λ (n : Option ℕ). IsMinimum s.question literals bits n) e
      (subst (λ (x : Asked). IsMinimum x.question literals bits (Some (cost costs (take (length costs) bits)))) r.view
      (let c = cut s rules costs evidence literals low high r model bits t is in
      record {
        fits = c.fits;
        true_ = c.true_;
        costs = refl;
        bound = λ others f g.
            let k = carried s rules costs evidence literals low high r others f in
            omega (arith, w.below k.to k.kept k.knows (k.same ∙ g), k.costs_, cheap, c.costs_);
      }))

  pub settled-ok : (weights : Weights) (part : ℕ) → Weighs rules costs evidence [] weights → high ≤ weights.lower → part < length costs → 0 < get_or weights.parts.items part 0
      → (bits : List Bool) → Fits s.question bits → cost_of s.question bits ≤ s.high → get_or bits part false ≡ true
  settled-ok weights part w less lt p = subst (λ (x : Asked). (bits : List Bool) → Fits x.question bits → cost_of x.question bits ≤ x.high → get_or bits part false ≡ true) r.view (λ bits f hi.
      (let k = carried s rules costs evidence literals low high r bits f in
      let cheap : false_weight k.to (priced 1 costs) ≤ weights.lower = omega (arith, k.costs_, hi, less) in
      let same : 0 + part + 1 ≡ part + 1 = omega arith in
      let back : part + 1 - 1 ≡ part = omega arith in
      ap (λ (i : ℕ). get_or bits i false) (sym back) ∙ sym (k.alike (part + 1) (omega arith) (omega (arith, lt, r.parts))) ∙ ap k.to (sym same)
      ∙ settled-parts rules costs evidence weights r.even w k.to k.kept k.knows cheap part (omega (arith, lt, w.parts)) p))

-- What holds of an oracle still holds with other definitions, weights and bits.
pub is-oracle : (old new final : Rules) (costs evidence : List ℕ) (weights others : Weights) (bits found : List Bool) (space more : ℕ) → IsOracle old costs evidence weights bits space → final ≡ new → new.cnf ≡ old.cnf
    → take 2 new.members ≡ first_two costs → Weighs new costs evidence [] others → length found ≡ length bits → space ≤ more → IsOracle final costs evidence others found more
is-oracle old new final costs evidence weights others bits found space more o m e f w l s =
    let vars : new.cnf.vars ≡ old.cnf.vars = ap (λ (k : ClauseList). k.vars) e in
    subst (λ (x : Rules). IsOracle x costs evidence others found more) (sym m)
    record { parts = omega (arith, o.parts); total = o.total; known = o.known ∙ sym vars; long = l ∙ o.long ∙ sym vars; first = f; weighs = w; room = omega (arith, o.room, s) }

-- What holds of a new one.
pub new-oracle : (rules : Rules) (cnf : ClauseList) (costs evidence items : List ℕ) (weights : Weights) (bits : List Bool) (space : ℕ) → rules ≡ first_rules cnf costs → items ≡ costs → length costs ≤ cnf.vars
    → total_cost costs < TOTAL_LIMIT → length evidence ≡ cnf.vars → length bits ≡ cnf.vars → IsFresh costs weights → cnf.vars + 2 + cnf.vars ≤ space → IsOracle rules items evidence weights bits space
new-oracle rules cnf costs evidence items weights bits space r i p t e b f s =
    subst (λ (x : Rules). IsOracle x items evidence weights bits space) (sym r)
    (subst (λ (x : List ℕ). IsOracle (first_rules cnf costs) x evidence weights bits space) (sym i)
    record { parts = p; total = t; known = e; long = b; first = refl; weighs = weighs-fresh (first_rules cnf costs) costs evidence weights f; room = s })

-- The least of bits that cost less and less.
pub cost-total : (costs : List ℕ) (bits : List Bool) → cost costs bits ≤ total_cost costs
cost-total [] bits = omega arith
cost-total (c ∷ costs) [] = omega arith
cost-total (c ∷ costs) (true ∷ bits) = omega (arith, cost-total costs bits, total-drop (c ∷ costs) 0 (omega arith))
cost-total (c ∷ costs) (false ∷ bits) = omega (arith, cost-total costs bits, total-drop (c ∷ costs) 0 (omega arith))

pub lowered : (q : Question) (literals : List ℤ) (from top : ℕ) (bits : List Bool) (high : ℕ) (least : Option ℕ) → Lowered q literals from top bits high least
    → NoneFound (record { question = q; low = from; high = high; bits = bits }) literals → LeastFrom q literals from top bits least
lowered q literals from top bits high None l none = λ others f lo hi. none others f lo (omega (arith, l, hi))
lowered q literals from top bits high (Some n) l none = record {
  fits = l.fits;
  true_ = l.true_;
  costs = l.costs;
  low = l.low;
  high = l.top_is;
  bound = λ others f t lo. elim (cases_lt (cost_of q others) n) [ inl h ↦ absurd (let e = none others f lo (omega (arith, h, l.next)) in cc) | inr h ↦ h ];
}

-- No bits cost more than all parts.
pub from-minimum : (q : Question) (literals : List ℤ) (bits : List Bool) (least : Option ℕ) → total_cost q.costs < TOTAL_LIMIT → LeastFrom q literals 0 TOTAL_LIMIT bits least → IsMinimum q literals bits least
from-minimum q literals bits None total none = λ others f. none others f (omega arith) (omega (arith, total, cost-total q.costs (take (length q.costs) others)))
from-minimum q literals bits (Some n) total l = record { fits = l.fits; true_ = l.true_; costs = l.costs; bound = λ others f t. l.bound others f t (omega arith) }
