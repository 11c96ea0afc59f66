use Rattle.std.proofs.Common.{subst}
use Rattle.device_files.specs.Choices.{HasSum}
use Rattle.device_files.proofs.ForestChoices.{found_or_above}
use Rattle.device_files.proofs.weighing.sum_within.Goals as goal

pub returns-in-Some-clause-list : goal.returns-in-Some-clause-list
returns-in-Some-clause-list c = λ sum has.
    let cnf = c.args.cnf.now in
    let along = subst (λ forest. HasSum cnf forest sum) c.in-Some.is has in
    let found = c.found_within.ensures in
    found_or_above cnf c.in-Some.found along.0 c.args.budget sum along.1 c.found_within.result found.sum found.few found.fault found.above
