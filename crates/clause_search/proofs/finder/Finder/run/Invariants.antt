use Rattle.std.proofs.Common.{◌≡◌}
use Rattle.clause_search.proofs.finder.Finder.run.Given as goal

abbrev pub invariant-loop-step : goal.invariant-loop-step
invariant-loop-step l = l.kernel ≡ l.initial.kernel
