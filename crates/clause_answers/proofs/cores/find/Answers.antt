use Rattle.std.proofs.Common.{◌≡◌, true, length, refl, ap, sym, ◌∙◌, arith}
use Rattle.state_rules.specs.Assignments.{assignment}
use Rattle.clause_encoder.specs.Clauses.{ClauseList}
use Rattle.clause_search.specs.Searching.{all_true, all_vars}
use Rattle.clause_answers.proofs.KnownLiterals.{within-more}
use Rattle.clause_answers.proofs.cores.find.Goals as goal

pub solve-requires : goal.solve-requires
solve-requires c =
    let same : c.loop-turn.search.rules.cnf.vars ≡ c.args.search.now.rules.cnf.vars = ap (λ (cnf : ClauseList). cnf.vars) c.loop-turn.invariant.grown.cnf in
    rw c.as_slice.ensures.value (c.assume.ensures.within (all_vars c.loop-turn.search.rules)
    (omega (arith, c.loop-turn.invariant.weighs.short, c.requires.vars))
    (within-more (length c.args.evidence.now) (all_vars c.loop-turn.search.rules) c.args.literals.now (omega (arith, c.requires.vars)) c.requires.within))

pub returns-then-bits_cost-weights-clause-reached : goal.returns-then-bits_cost-weights-clause-reached
returns-then-bits_cost-weights-clause-reached c = λ _.
    let m = c.in-Model.ensures.model refl in
    let assumed : all_true (assignment c.solve.new.self.model) c.assume.new.assumed.items ≡ true = ap (all_true (assignment c.solve.new.self.model)) (sym c.as_slice.ensures.value) ∙ m.assumed in
    record {
      long = omega (arith, m.long);
      kept = m.kept;
      knows = c.assume.ensures.known (assignment c.solve.new.self.model) assumed;
      true_ = c.assume.ensures.others (assignment c.solve.new.self.model) assumed;
    }
