-- What is kept of a case.
use Rattle.std.proofs.Common.{◌≡◌, ℕ, zero, suc, ◌<◌, ◌≤◌, Bool, true, false, List, [], length, Option, Some, None, replicate, refl, sym, ap, ◌∙◌, subst, arith}
use Rattle.std.proofs.lemmas.Bool.Decides.{nat_tests}
use Rattle.state_rules.specs.Bits.{bit_in}
use Rattle.state_rules.specs.Assignments.{assignment}
use Rattle.clause_encoder.specs.Clauses.{ClauseList, is_clause_list}
use Rattle.conditioner.specs.Models.{fits_evidence}
use Rattle.clause_answers.specs.Questions.{Question, least_under}
use Rattle.clause_answers.specs.inner.Asking.{Asked, IsMinimum}
use Rattle.diagnosis_lister.specs.inner.Fixing.{IsFirst}
use Rattle.clause_answers.specs.inner.Listed.{Shows, AreOk, is_after, FindsNext}
use Rattle.clause_answers.proofs.States.{minimum-least}

no-bit : (n i : ℕ) → bit_in (replicate n false) i ≡ false
no-bit zero i = refl
no-bit (suc n) zero = refl
no-bit (suc n) (suc i) = no-bit n i

-- no part is marked as ok
pub none-ok : (q : Question) (low high n : ℕ) → AreOk q low high (replicate n false)
none-ok q low high n part e = absurd (let no : true ≡ false = sym e ∙ no-bit n part in cc)

-- There are fewer variables than that.
pub few_parts : (cnf : ClauseList) → is_clause_list cnf ≡ true → cnf.vars < 2147483648
few_parts cnf e = grind (arith, nat_tests)

-- The least cost without more literals is that of the case.
pub least-is : (q : Question) (bits : List Bool) (r : Option ℕ) → length q.costs ≤ q.cnf.vars → IsMinimum q [] bits r → r ≡ least_under q
least-is q bits r within m = minimum-least q within (fits_evidence q.evidence) [] (λ b. grind arith) bits r m

pub ruleset least_steps = (least-is)

-- The first state of a cost is the first one after no point.
pub first-found : (q : Question) (c : ℕ) (old new : List Bool) → IsFirst (λ h. Shows q c c h) new → FindsNext q c None true old new
first-found q c old new f = record { meets = (f.meets, refl); before = λ k p. f.before k p.0 }

pub first-none : (q : Question) (asked : Asked) (c : ℕ) (old new : List Bool) → asked.question ≡ q → asked.low ≡ c → asked.high ≡ c → new ≡ old
    → ((h : List Bool) → Shows asked.question asked.low asked.high h → ⊥) → FindsNext q c None false old new
first-none q asked c old new e f g same none =
    (same, λ h s a. none h (subst (λ x. Shows x asked.low asked.high h) (sym e) (subst (λ x. Shows q x asked.high h) (sym f) (subst (λ x. Shows q c x h) (sym g) s))))

pub ruleset first_steps = (first-found)

pub ruleset aim_steps = (none-ok)
