use Rattle.std.proofs.Common.{◌≡◌, length, Some, replicate, arith, rules}
use Rattle.state_rules.specs.declared.blame.Blame.TheVariants.{Inconsistent}
use Rattle.clause_answers.specs.Questions.{least_under}
use Rattle.clause_answers.specs.inner.Reported.{AreNoted, AreSettled}
use Rattle.clause_answers.proofs.Blames.{none-blamed, none-diagnoses, no-bits, all-blamed}
use Rattle.clause_answers.proofs.case_search.CaseSearch.blame.Goals as goal

pub returns-then-find-clause-blame : goal.returns-then-find-clause-blame
returns-then-find-clause-blame c =
    let q = c.args.self.now in
    let n = c.in-Some.cost in
    let notes : AreNoted q n n c.settle.new.verdicts = grind (arith, c.settle.ensures, c.find.ensures.same, c.aim.ensures, c.self.view_is, c.least.ensures.same) in
    let settled : AreSettled q n n c.settle.new.verdicts (length c.settle.new.verdicts) = grind (arith, c.settle.ensures, c.find.ensures.same, c.aim.ensures, c.self.view_is, c.least.ensures.same) in
    all-blamed q c.parts-parts.ensures.within n (grind (arith, c.least.ensures.least)) c.settle.new.verdicts (grind arith) notes settled

pub returns-else-find-clause-blame : goal.returns-else-find-clause-blame
returns-else-find-clause-blame c =
    let all : c.fill.new.self ≡ replicate (length c.args.verdicts.now) Inconsistent = c.fill.ensures.after (search rules) in
    let e : least_under c.args.self.now ≡ Some c.in-Some.cost = grind (arith, c.least.ensures.least) in
    none-blamed c.args.self.now c.parts-parts.ensures.within c.fill.new.self (rw c.requires at all)
    (no-bits c.args.self.now c.parts-parts.ensures.within c.in-Some.cost e (λ b m. grind (arith, c.find.ensures.none, c.aim.ensures, c.self.view_is, c.least.ensures.same)))

pub returns-in_default-clause-blame : goal.returns-in_default-clause-blame
returns-in_default-clause-blame c =
    let all : c.fill.new.self ≡ replicate (length c.args.verdicts.now) Inconsistent = c.fill.ensures.after (search rules) in
    none-blamed c.args.self.now c.parts-parts.ensures.within c.fill.new.self (rw c.requires at all)
    (none-diagnoses c.args.self.now c.parts-parts.ensures.within (grind (arith, c.least.ensures.least)))
