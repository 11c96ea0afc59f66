use Rattle.nnf_ask.proofs.Law.{graph_meant, case_fits, are_alike}
use Rattle.nnf_ask.proofs.laws.answers_for_device.Goals as goal

pub returns-clause-case : goal.returns-clause-case
returns-clause-case c = λ device vars most text spelled graph read known case.
    case_fits device graph (graph_meant device vars most text graph spelled read) known case

pub returns-clause-alike : goal.returns-clause-alike
returns-clause-alike c = λ device vars most text spelled graph read costs known case.
    are_alike device graph (graph_meant device vars most text graph spelled read) known case costs
