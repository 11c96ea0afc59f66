use Rattle.std.proofs.Common.{inl, inr, arith}
use Rattle.conditioner.specs.Evidence.{bits_of}
use Rattle.clause_answers.proofs.RisingStates.{same-out}
use Rattle.clause_answers.proofs.case_search.CaseSearch.find_same.Goals.{then-level-least-via-then-level-least, then-level-least-via-else-level-least+then-top-level}
use Rattle.clause_answers.proofs.case_search.CaseSearch.find_same.Goals as goal

pub returns-then-level-least-clause-found : goal.returns-then-level-least-clause-found
returns-then-level-least-clause-found c = same-out c.args.self.now c.parts-parts.ensures.within c.args.least c.requires.least c.args.top (bits_of c.args.point.now) (bits_of c.args.state.now)
    (elim c.then-level-least.branch [
      | then-level-least-via-then-level-least w ↦ inl (omega (arith, w.if-level-least.true, c.requires.level))
      | then-level-least-via-else-level-least+then-top-level w ↦ inr (omega (arith, w.if-top-level.true, c.requires.level))
    ])
