-- Lemmas by which the check proves the rest of the contracts.
use Rattle.std.proofs.lemmas.List.Sums.{sum_by-take-le}
use Rattle.flat_lists.proofs.Pieces.{length-pieces}
use Rattle.minimiser.proofs.SpreadMarks.{children_before}
use Rattle.diagnosis_lister.proofs.Faults.{faults-few}
use Rattle.fault_graph.proofs.AddedNodes.{sizes}
use Rattle.fault_graph.proofs.LastMinimised.{known-some, last-minimised, no-models}

-- the number of nodes, and the nodes before one
pub ruleset sizes_of_pieces = (children_before, length-pieces, sizes)

-- the number of faults
pub ruleset few_faults = (faults-few, sum_by-take-le)

-- what was minimised last
pub ruleset last_minimised_one = (known-some, last-minimised, no-models)
