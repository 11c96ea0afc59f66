-- Lemmas by which the check finds the rest of what functions require and ensure.
use Rattle.std.proofs.lemmas.Bool.{lt-ltb}
use Rattle.state_rules.proofs.NodeValues.{are_below-from}
use Rattle.node_store.proofs.Literals.{first_new, literals_more, second_new}
use Rattle.node_store.proofs.Zipped.{edges-nodes_of, length-nodes_of, nodes_of-at, nodes_of-push}

-- nodes whose kinds and children are in two lists
pub ruleset zipped_nodes = (edges-nodes_of, length-nodes_of, nodes_of-at, nodes_of-push)

pub ruleset fitting_nodes = (are_below-from, lt-ltb)

-- the literals that a new store holds
pub ruleset new_literals = (first_new, literals_more, second_new)
