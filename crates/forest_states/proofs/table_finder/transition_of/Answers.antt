use Rattle.std.proofs.Common.{◌||◌, ◌==◌, true, false, pos, arith}
use Rattle.std.proofs.lemmas.List.Folds.{list_any_more, list_all_more}
use Rattle.clause_encoder.specs.Clauses.{var_of}
use Rattle.state_rules.specs.Bits.{bit_in}
use Rattle.elimination_forests.specs.Branches.{is_true_by}
use Rattle.forest_states.proofs.table_finder.transition_of.Goals as goal

pub loop-literal-preserved : goal.loop-literal-preserved
loop-literal-preserved c =
    let clause = c.args.clause.now in
    let seen = c.args.seen.now in
    let v = c.args.var in
    let at = c.loop-literal.literal-index in
    let e = c.with_literal-transition.ensures in
    let before = c.loop-literal.invariant in
    let marked = list_any_more (λ k. bit_in seen (var_of k)) clause at (pos 0) c.loop-literal-test.true in
    let zero = list_any_more (is_true_by v false) clause at (pos 0) c.loop-literal-test.true in
    let one = list_any_more (is_true_by v true) clause at (pos 0) c.loop-literal-test.true in
    let within = list_all_more (λ k. (v == var_of k) || bit_in seen (var_of k)) clause at (pos 0) c.loop-literal-test.true in
    record {
      fresh = grind (arith, e, before.fresh, marked);
      true_at_0 = grind (arith, e, before.true_at_0, zero);
      true_at_1 = grind (arith, e, before.true_at_1, one);
      ends = grind (arith, e, before.ends, within);
    }
