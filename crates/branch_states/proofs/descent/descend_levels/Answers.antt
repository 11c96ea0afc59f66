use Rattle.std.proofs.Common.{Ok, ap, ◌∙◌, arith}
use Rattle.elimination_forests.specs.Branches.{order}
use Rattle.elimination_forests.specs.Forests.{chain}
use Rattle.elimination_forests.proofs.Chains.{chain-forest}
use Rattle.forest_states.proofs.Mapped.{if-some}
use Rattle.elimination_forests.proofs.LastWays.{chain-last}
use Rattle.branch_states.proofs.Sums.{whole-sum}
use Rattle.branch_states.proofs.descent.descend_levels.Goals as goal

pub returns-in_default-clause-above : goal.returns-in_default-clause-above
returns-in_default-clause-above c _ =
    let valid = c.in_ok-steps.ensures.valid in
    let high = c.in_ok-found.ensures.above (ap (λ o. Ok o) c.in_default.is) (chain (order c.args.cnf.now.clauses)) (c.deref.ensures.value ∙ c.in_ok-steps.ensures.steps) (chain-forest c.args.cnf.now valid) in
    omega (arith, high, chain-last c.args.cnf.now valid)

pub sum_within-requires-clause-some : goal.sum_within-requires-clause-some
sum_within-requires-clause-some c =
    let sum = if-some _ _ _ c.in-Some.is c.in_ok-found.ensures.sum (chain (order c.args.cnf.now.clauses)) (c.deref.ensures.value ∙ c.in_ok-steps.ensures.steps) (chain-forest c.args.cnf.now c.in_ok-steps.ensures.valid) in
    omega (arith, sum)

pub returns-in-None-clause-above : goal.returns-in-None-clause-above
returns-in-None-clause-above c _ =
    let whole = whole-sum c.args.cnf.now c.in_ok-steps.ensures.valid _ _ _ (c.deref.ensures.value ∙ c.in_ok-steps.ensures.steps) (if-some _ _ _ c.in-Some.is c.in_ok-found.ensures.sum) (if-some _ _ _ c.in-Some.is c.in_ok-found.ensures.leads_on) in
    omega (arith, whole, c.sum_within.ensures.above c.in-None.is)

pub returns-in-Some-sum_within-clause-forks : goal.returns-in-Some-sum_within-clause-forks
returns-in-Some-sum_within-clause-forks c =
    if-some _ _ _ c.in-Some.is c.in_ok-found.ensures.forks (chain (order c.args.cnf.now.clauses)) (c.deref.ensures.value ∙ c.in_ok-steps.ensures.steps) (chain-forest c.args.cnf.now c.in_ok-steps.ensures.valid)

pub returns-in-Some-sum_within-clause-within : goal.returns-in-Some-sum_within-clause-within
returns-in-Some-sum_within-clause-within c =
    let whole = whole-sum c.args.cnf.now c.in_ok-steps.ensures.valid _ _ _ (c.deref.ensures.value ∙ c.in_ok-steps.ensures.steps) (if-some _ _ _ c.in-Some.is c.in_ok-found.ensures.sum) (if-some _ _ _ c.in-Some.is c.in_ok-found.ensures.leads_on) in
    omega (arith, whole, if-some _ _ _ c.in-Some-sum_within.is c.sum_within.ensures.sum, if-some _ _ _ c.in-Some-sum_within.is c.sum_within.ensures.within)
