use Rattle.std.proofs.Common.{◌≡◌, ◌<◌, ℕ, List, length, get_or, [], sym, ◌∙◌, subst, ap}
use Rattle.conditioner.specs.Models.{diagnoses_under}
use Rattle.conditioner.specs.Evidence.{bits_of}
use Rattle.adder_load.proofs.ListedDiagnoses.{some_diagnosis, same_first}
use Rattle.adder_load.proofs.sampling.sample.Goals as goal

pub list_on-listed-requires-clause-there : goal.list_on-listed-requires-clause-there
list_on-listed-requires-clause-there g c =
    let graph = c.args.graph.now in
    let costs = c.args.costs.now in
    subst (λ (ws : List ℕ). 0 < length (diagnoses_under graph ws costs)) (sym c.first.ensures.evidence) (some_diagnosis graph c.args.evidence.now costs c.in_ok-fewest.fewest c.in_ok-fewest.ensures.least)

pub list_on-listed-requires-clause-first : goal.list_on-listed-requires-clause-first
list_on-listed-requires-clause-first g c =
    let graph = c.args.graph.now in
    let evidence = c.args.evidence.now in
    let costs = c.args.costs.now in
    let some = some_diagnosis graph evidence costs c.in_ok-fewest.fewest c.in_ok-fewest.ensures.least in
    subst (λ (ws : List ℕ). bits_of c.copy_from_slice.new.self ≡ get_or (diagnoses_under graph ws costs) 0 []) (sym c.first.ensures.evidence)
    (ap bits_of c.copy_from_slice.ensures.after ∙ (c.in_ok-fewest.ensures.first ∙ same_first (diagnoses_under graph evidence costs) _ [] some))
