use Rattle.std.proofs.Common.{refl, arith}
use Rattle.conditioner.specs.Evidence.{bits_of}
use Rattle.clause_answers.proofs.Kept.{first-none}
use Rattle.clause_answers.proofs.case_search.CaseSearch.find_first.Goals as goal

pub returns-then-not-first_state-clause-found : goal.returns-then-not-first_state-clause-found
returns-then-not-first_state-clause-found c = first-none c.args.self.now c.aim.new.oracle c.args.cost (bits_of c.args.state.now) (bits_of c.args.state.now)
    (grind (arith, c.aim.ensures.question)) c.aim.ensures.low c.aim.ensures.high refl (c.first_state.ensures.none c.if-not-first_state.true)
