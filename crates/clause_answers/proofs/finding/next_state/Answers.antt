use Rattle.std.proofs.Common.{◌≡◌, ◌-◌, ◌+◌, ◌<◌, ℕ, Bool, true, false, List, length, sym, ◌∙◌, refl, below_more, arith}
use Rattle.state_rules.specs.Bits.{bit_in, AlikeBelow}
use Rattle.diagnosis_lister.specs.inner.Fixing.{NoneAfter}
use Rattle.clause_answers.specs.inner.Listed.{Shows, signs}
use Rattle.clause_answers.proofs.Completing.{none-start, none-back, leave-first}
use Rattle.clause_answers.proofs.Prefix.{length-signs, said}
use Rattle.clause_answers.proofs.finding.next_state.Goals as goal

pub loop-place-init : goal.loop-place-init
loop-place-init c =
    let long : length (signs c.args.literals.now) ≡ length c.args.oracle.now.question.costs = length-signs c.args.literals.now ∙ c.requires.long in
    let none = none-start c.args.oracle.now.question c.args.oracle.now.low c.args.oracle.now.high c.costs-parts.ensures.parts (signs c.args.literals.now) long in
    record { same = refl; oks = c.requires.oks; within = omega arith; ordered = c.requires.ordered; alike = λ i lt. refl; none = rw c.requires.long none }

pub loop-place-preserved : goal.loop-place-preserved
loop-place-preserved c =
    let n : ℕ = c.loop-place.place - 1 in
    let next : c.loop-place.place ≡ n + 1 = omega arith in
    let long : length (signs c.args.literals.now) ≡ length c.args.oracle.now.question.costs = length-signs c.args.literals.now ∙ c.requires.long in
    let ok : bit_in (signs c.args.literals.now) n ≡ true = grind (arith, said c.loop-place.literals n, c.loop-place.invariant.alike n) in
    let none = none-back c.args.oracle.now.question c.args.oracle.now.low c.args.oracle.now.high c.costs-parts.ensures.parts (signs c.args.literals.now) long n (omega (arith, c.loop-place.invariant.within))
    (rw next at c.loop-place.invariant.none) (λ e b meets alike f. let no : true ≡ false = sym ok ∙ e in cc) in
    grind arith

pub loop-place-preserved-else-find : goal.loop-place-preserved-else-find
loop-place-preserved-else-find c =
    let n : ℕ = c.loop-place.place - 1 in
    let next : c.loop-place.place ≡ n + 1 = omega arith in
    let long : length (signs c.args.literals.now) ≡ length c.args.oracle.now.question.costs = length-signs c.args.literals.now ∙ c.requires.long in
    let none = none-back c.args.oracle.now.question c.args.oracle.now.low c.args.oracle.now.high c.costs-parts.ensures.parts (signs c.args.literals.now) long n (omega (arith, c.loop-place.invariant.within))
    (rw next at c.loop-place.invariant.none) (λ e b meets alike f.
    (rw c.loop-place.invariant.same at c.find.ensures.none) c.if-find.false b meets (below_more (λ i. bit_in b i ≡ bit_in (signs c.put.new.literals) i) n
    (λ i lt. alike i lt ∙ sym (c.put.ensures.front i lt ∙ c.loop-place.invariant.alike i (omega arith))) (f ∙ sym c.put.ensures.bit))) in
    grind arith

pub returns-then-find-clause-first : goal.returns-then-find-clause-first
returns-then-find-clause-first c e =
    let n : ℕ = c.loop-place.place - 1 in
    let next : c.loop-place.place ≡ n + 1 = omega arith in
    let long : length (signs c.args.literals.now) ≡ length c.args.oracle.now.question.costs = length-signs c.args.literals.now ∙ c.requires.long in
    let faulty : bit_in (signs c.args.literals.now) n ≡ false = grind (arith, said c.loop-place.literals n, c.loop-place.invariant.alike n) in
    leave-first c.args.oracle.now.question c.args.oracle.now.low c.args.oracle.now.high c.costs-parts.ensures.parts (signs c.args.literals.now) long n (signs c.put.new.literals) (signs c.complete.new.literals) (omega (arith, c.loop-place.invariant.within))
    (rw next at c.loop-place.invariant.none) faulty (λ i lt. c.put.ensures.front i lt ∙ c.loop-place.invariant.alike i (omega arith)) c.put.ensures.bit
    (rw (c.find.ensures.same, c.loop-place.invariant.same) at c.complete.ensures.first)
