use Rattle.std.proofs.Common.{◌≡◌, take, true, false, not}
use Rattle.elimination_forests.specs.Branches.{has_true}
use Rattle.forest_states.specs.inner.Descents.{meets_marked, within_marked}
use Rattle.forest_states.proofs.table_finder.transition_of.Given as goal

abbrev pub invariant-loop-literal : goal.invariant-loop-literal
invariant-loop-literal l = record {
  fresh : l.transition.fresh ≡ not (meets_marked l.seen (take l.literal-index l.clause));
  true_at_0 : l.transition.true_at_0 ≡ has_true l.var false (take l.literal-index l.clause);
  true_at_1 : l.transition.true_at_1 ≡ has_true l.var true (take l.literal-index l.clause);
  ends : l.transition.ends ≡ within_marked l.var l.seen (take l.literal-index l.clause);
}
