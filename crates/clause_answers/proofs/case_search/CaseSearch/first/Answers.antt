use Rattle.std.proofs.Common.{None, sym, arith}
use Rattle.conditioner.specs.Evidence.{bits_of}
use Rattle.clause_answers.proofs.Lists.{next-state, none-state}
use Rattle.clause_answers.proofs.case_search.CaseSearch.first.Goals as goal

pub returns-in-Some-clause-first : goal.returns-in-Some-clause-first
returns-in-Some-clause-first c = next-state c.args.self.now c.parts-parts.ensures.within c.in-Some.cost (sym c.in-Some.ensures.least) None c.find_next-found.result (bits_of c.args.state.now) (bits_of c.find_next-found.new.state) (rw (← c.least-least.ensures.same) c.find_next-found.ensures.found)

pub returns-in_default-clause-first : goal.returns-in_default-clause-first
returns-in_default-clause-first c = none-state c.args.self.now None (bits_of c.args.state.now) (grind (arith, c.least-least.ensures.least))
