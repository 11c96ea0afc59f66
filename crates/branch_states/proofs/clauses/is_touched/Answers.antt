use Rattle.std.proofs.Common.{pos, arith}
use Rattle.std.specs.Prelude.{nat_lt}
use Rattle.std.proofs.lemmas.List.Folds.{list_any_at, list_any_more}
use Rattle.clause_encoder.specs.Clauses.{var_of}
use Rattle.elimination_forests.specs.Branches.{place}
use Rattle.branch_states.proofs.clauses.is_touched.Goals as goal

pub returns-then-has_bit : goal.returns-then-has_bit
returns-then-has_bit c = grind (arith, c.has_bit.ensures, list_any_at (λ l. nat_lt (place c.args.variables.now.keys (var_of l)) c.args.level) c.args.clause.now c.loop-literal.literal-index (pos 0))

pub loop-literal-preserved : goal.loop-literal-preserved
loop-literal-preserved c = grind (arith, c.has_bit.ensures, list_any_more (λ l. nat_lt (place c.args.variables.now.keys (var_of l)) c.args.level) c.args.clause.now c.loop-literal.literal-index (pos 0))
