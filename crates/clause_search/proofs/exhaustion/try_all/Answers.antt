use Rattle.std.proofs.Common.{◌≡◌, ◌+◌, ◌^◌, false, length, refl, arith}
use Rattle.state_rules.specs.Assignments.{assignment}
use Rattle.clause_search.proofs.Exhausted.{IsTried, is_found, tried_more, tried_all}
use Rattle.clause_search.proofs.exhaustion.try_all.Goals as goal

pub returns-then-not-advance-clause-none : goal.returns-then-not-advance-clause-none
returns-then-not-advance-clause-none c = λ e.
    let own : is_found c.args.kernel.now c.args.literals.now (assignment c.tries.bits) ≡ false = grind (arith, c.is_found.ensures) in
    let all : IsTried c.args.kernel.now c.args.literals.now (length c.tries.bits) (2 ^ length c.tries.bits) =
    rw (← c.advance.ensures.last c.if-not-advance.true) (tried_more c.args.kernel.now c.args.literals.now (length c.tries.bits) c.tries.bits refl c.tries.invariant own) in
    tried_all c.args.kernel.now c.args.literals.now (length c.tries.bits) c.definitions-definitions.ensures.valid c.definitions-definitions.ensures.ordered c.requires.within (grind (arith, c.requires.long)) all

pub tries-preserved : goal.tries-preserved
tries-preserved c =
    let own : is_found c.args.kernel.now c.args.literals.now (assignment c.tries.bits) ≡ false = grind (arith, c.is_found.ensures) in
    λ xs h lt. tried_more c.args.kernel.now c.args.literals.now (length c.tries.bits) c.tries.bits refl c.tries.invariant own xs (grind (arith, h)) (grind (arith, lt, c.advance.ensures.more))
