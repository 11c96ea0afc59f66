-- Lemmas by which the check finds the rest of what functions require and ensure.
use Rattle.std.proofs.Math.ListN.{length-set}
use Rattle.minimiser.proofs.OnePass.{all_valued, length-least_costs, none_yet, root_none, root_small, root_some}
use Rattle.minimiser.proofs.SpreadMarks.{are-values, children_before, root-low, some-least}
use Rattle.minimiser.proofs.Sums.{least_two, sum_two}

-- the costs that a sweep begins with
pub ruleset swept_costs = (are-values, length-least_costs, root-low, some-least)

-- the children of the node that is met
pub ruleset met_children = (children_before, length-set)

-- the cost of the root
pub ruleset root_costs = (root_none, root_small, root_some)

-- the costs of no node, and of all
pub ruleset pass_ends = (all_valued, none_yet)

-- the cost of two children
pub ruleset pair_costs = (least_two, sum_two)
