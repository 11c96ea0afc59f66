use Rattle.std.proofs.Common.{◌++◌, [], ◌∷◌, ◌∙◌, arith}
use Rattle.std.specs.Prelude.{if◌then◌else◌}
use Rattle.forest_states.specs.inner.Descents.{has_var, clause_at}
use Rattle.forest_states.proofs.ClausesByVariable.{numbers-more}
use Rattle.forest_states.proofs.marks.find_clauses.Goals as goal

pub loop-number-preserved : goal.loop-number-preserved
loop-number-preserved c =
    let n = c.loop-number.number in
    record {
      long = c.in_ok-add_clause.ensures.long ∙ c.loop-number.invariant.long;
      of = λ v low.
          c.in_ok-add_clause.ensures.of v (omega (arith, c.loop-number.invariant.long))
          ∙ (λ j. c.loop-number.invariant.of v low j ++ (if has_var v (c.clause.ensures j) then n ∷ [] else []))
          ∙ numbers-more (λ m. has_var v (clause_at c.args.cnf.now.clauses m)) n;
    }
