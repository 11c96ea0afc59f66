use Rattle.state_rules.specs.Assignments.{Assignment}
use Rattle.clause_search.specs.inner.Marks.{Agrees}
use Rattle.clause_search.specs.inner.Facts.{AreTrue}
use Rattle.clause_search.proofs.facts.refute.Given as goal

abbrev pub invariant-loop-fact : goal.invariant-loop-fact
invariant-loop-fact l = (a : Assignment) → AreTrue a l.facts → Agrees a l.initial.marks → Agrees a l.marks
