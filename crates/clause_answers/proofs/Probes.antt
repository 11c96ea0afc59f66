-- The least cost if a variable has a bit, and what bits of the least cost show.
use Rattle.std.proofs.Common.{◌≡◌, ℕ, ◌+◌, ◌-◌, ◌<◌, ◌≤◌, Bool, true, false, ◌&&◌, List, [], ◌∷◌, length, take, get_or, replicate, Option, Some, None, ℤ, not, cond, refl, sym, ap, ◌∙◌, inl, inr, arith}
use Rattle.std.specs.Prelude.{◌⊎◌, unwrap_or}
use Rattle.std.proofs.lemmas.List.{get_or-replicate}
use Rattle.state_rules.specs.Bits.{bit_in, same_bit}
use Rattle.state_rules.proofs.Bits.{same_bit-refl}
use Rattle.clause_encoder.specs.Clauses.{literal}
use Rattle.conditioner.specs.Models.{fits_evidence, total_cost}
use Rattle.state_rules.specs.Numbers.{cost_in}
use Rattle.minimiser.proofs.Sums.{cost_in-some}
use Rattle.clause_answers.specs.Questions.{Question, least_with}
use Rattle.clause_answers.specs.inner.Asking.{Fits, cost_of, IsMinimum}
use Rattle.clause_answers.specs.inner.Reported.{IsRight}
use Rattle.clause_answers.proofs.Answered.{cost-total}
use Rattle.clause_answers.proofs.Prefix.{Says, one-true}
use Rattle.clause_answers.proofs.States.{minimum-least}

says-bit : (place : ℕ) (bit : Bool) → Says (literal bit (place + 1)) place bit
says-bit place true a = grind arith
says-bit place false a = grind arith

-- the least cost with one literal is that with a bit of its variable
pub with-is : (q : Question) (place : ℕ) (bit : Bool) (l : ℤ) (bits : List Bool) (r : Option ℕ) → length q.costs ≤ q.cnf.vars → Says l place bit
    → IsMinimum q (l ∷ []) bits r → r ≡ least_with q (place + 1) bit
with-is q place bit l bits r within says m =
    let back : place + 1 - 1 ≡ place = omega arith in
    minimum-least q within (λ b. fits_evidence q.evidence b && same_bit bit (bit_in b (place + 1 - 1))) (l ∷ [])
    (λ b. ap (λ (t : Bool). fits_evidence q.evidence b && t) (ap (λ (i : ℕ). same_bit bit (bit_in b i)) back ∙ sym (one-true l place bit b says))) bits r m

-- a cost is not the greatest number
pub cost-number : (q : Question) (bits : List Bool) (n : ℕ) → total_cost q.costs < 2147483647 → cost_of q bits ≡ n → cost_in n ≡ Some n
cost-number q bits n total e = cost_in-some n (λ g. absurd (omega (arith, total, e, g, cost-total q.costs (take (length q.costs) bits))))

-- the number of an answer
pub number-right : (q : Question) (place : ℕ) (bit : Bool) (bits : List Bool) (r : Option ℕ) → total_cost q.costs < 2147483647 → r ≡ least_with q (place + 1) bit
    → ((n : ℕ) → r ≡ Some n → cost_of q bits ≡ n) → IsRight q place bit (unwrap_or r 4294967295)
number-right q place bit bits None total e found = e
number-right q place bit bits (Some n) total e found = cost-number q bits n total (found n refl) ∙ e

-- what bits of the least cost show
pub shown-right : (q : Question) (bits : List Bool) (n : ℕ) → length q.costs ≤ q.cnf.vars → total_cost q.costs < 2147483647 → Fits q bits → cost_of q bits ≡ n
    → ((b : List Bool) → Fits q b → n ≤ cost_of q b) → (place : ℕ) (bit : Bool) → bit_in bits place ≡ bit → IsRight q place bit n
shown-right q bits n within total f e least place bit has =
    let l : ℤ = literal bit (place + 1) in
    let says : Says l place bit = says-bit place bit in
    cost-number q bits n total e
    ∙ with-is q place bit l bits (Some n) within says (record { fits = f; true_ = one-true l place bit bits says ∙ ap (same_bit bit) has ∙ same_bit-refl bit; costs = e; bound = λ b g t. least b g })

-- if no bits fit
pub none-right : (q : Question) (bits : List Bool) → length q.costs ≤ q.cnf.vars → IsMinimum q [] bits None → (numbers : List ℕ) (n place i : ℕ) (bit : Bool) → numbers ≡ replicate n 4294967295 → i < n
    → IsRight q place bit (get_or numbers i 0)
none-right q bits within none numbers n place i bit all lt =
    ap cost_in (ap (λ k. get_or k i 0) all ∙ get_or-replicate n i 4294967295 0 lt)
    ∙ with-is q place bit (literal bit (place + 1)) bits None within (says-bit place bit) (λ b f. absurd (let no : true ≡ false = none b f in cc))

module _ (q : Question) (bits : List Bool) (n : ℕ) (within : length q.costs ≤ q.cnf.vars) (total : total_cost q.costs < 2147483647) (f : Fits q bits) (e : cost_of q bits ≡ n)
    (least : (b : List Bool) → Fits q b → n ≤ cost_of q b) where
  pub noted-list : (place : ℕ) (bit : Bool) (old new : ℕ) → new ≡ cond (same_bit bit (bit_in bits place)) n old → (new ≡ old) ⊎ IsRight q place bit new
  noted-list place bit old new is = by_bits bit (bit_in bits place) refl is where
    by_bits : (x y : Bool) → bit_in bits place ≡ y → new ≡ cond (same_bit x y) n old → (new ≡ old) ⊎ IsRight q place x new
    by_bits true true has k = inr (ap cost_in k ∙ shown-right q bits n within total f e least place true has)
    by_bits true false has k = inl k
    by_bits false true has k = inl k
    by_bits false false has k = inr (ap cost_in k ∙ shown-right q bits n within total f e least place false has)

  pub noted-other : (place : ℕ) (bit : Bool) (old new : ℕ) → new ≡ cond (same_bit bit (bit_in bits place)) old n → (new ≡ old) ⊎ IsRight q place (not bit) new
  noted-other place bit old new is = by_bits bit (bit_in bits place) refl is where
    by_bits : (x y : Bool) → bit_in bits place ≡ y → new ≡ cond (same_bit x y) old n → (new ≡ old) ⊎ IsRight q place (not x) new
    by_bits true true has k = inl k
    by_bits true false has k = inr (ap cost_in k ∙ shown-right q bits n within total f e least place false has)
    by_bits false true has k = inr (ap cost_in k ∙ shown-right q bits n within total f e least place true has)
    by_bits false false has k = inl k
