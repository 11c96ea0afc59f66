use Rattle.std.proofs.Common.{◌≡◌, ℕ, List, Bool, ap, subst, sym, ◌∙◌}
use Rattle.clause_answers.specs.Questions.{Question}
use Rattle.clause_answers.specs.inner.Asking.{Asked, LeastFrom, NoneFound}
use Rattle.clause_answers.proofs.Answered.{lowered}
use Rattle.clause_answers.proofs.oracle.Oracle.least_from.Goals as goal

pub returns-clause-least : goal.returns-clause-least
returns-clause-least c =
    let s : Asked = c.loop-least.self in
    let i = c.loop-least.invariant in
    let is : s.question ≡ c.args.self.now.question = i.question ∙ ap (λ (x : Asked). x.question) c.seek.ensures in
    let none = subst (λ (n : ℕ). NoneFound (record s { low = n }) c.args.literals.now) i.from (c.ask.ensures.none c.loop-least-test.false) in
    let bits : s.bits ≡ c.seek-2.new.self.bits = sym (ap (λ (x : Asked). x.bits) c.seek-2.ensures ∙ c.ask.ensures.kept c.loop-least-test.false) in
    subst (λ (q : Question). LeastFrom q c.args.literals.now c.args.from c.args.top c.seek-2.new.self.bits c.loop-least.least) is
    (subst (λ (b : List Bool). LeastFrom s.question c.args.literals.now c.args.from c.args.top b c.loop-least.least) bits
    (lowered s.question c.args.literals.now c.args.from c.args.top s.bits s.high c.loop-least.least i.state none))
