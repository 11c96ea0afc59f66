use Rattle.std.proofs.Common.{◌≡◌, length, sym, ◌∙◌, arith}
use Rattle.clause_answers.specs.inner.Listed.{signs}
use Rattle.clause_answers.proofs.Completing.{reach-more, reach-first}
use Rattle.clause_answers.proofs.Prefix.{length-signs}
use Rattle.clause_answers.proofs.finding.complete.Goals as goal

pub loop-place-preserved : goal.loop-place-preserved
loop-place-preserved c =
    let reach = reach-more c.args.oracle.now.question c.args.oracle.now.low c.args.oracle.now.high c.args.from (signs c.args.literals.now) (signs c.loop-place.literals) (signs c.fix.new.literals) c.loop-place.place
    c.loop-place.invariant.reach c.fix.ensures.kept (rw c.loop-place.invariant.same at c.fix.ensures.least) in
    grind arith

pub returns-clause-first : goal.returns-clause-first
returns-clause-first c =
    let all : c.loop-place.place ≡ length c.args.oracle.now.question.costs = omega arith in
    let long : length (signs c.loop-place.literals) ≡ length c.args.oracle.now.question.costs = length-signs c.loop-place.literals ∙ omega arith in
    reach-first c.args.oracle.now.question c.args.oracle.now.low c.args.oracle.now.high c.costs-parts.ensures.parts c.args.from (signs c.args.literals.now) (signs c.loop-place.literals) c.loop-place.oracle.bits (omega arith) long
    c.loop-place.invariant.meets (rw all at c.loop-place.invariant.alike) c.loop-place.invariant.front (rw all at c.loop-place.invariant.reach)
