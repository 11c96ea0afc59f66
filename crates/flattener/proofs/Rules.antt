-- Lemmas by which the check finds the rest of what functions require and ensure.
use Rattle.flattener.proofs.ExpandedInstances.{args_few, block_read, own_behind, own_short, part_read, path_short}
use Rattle.flattener.proofs.PathNames.{behind-prefix}

-- what an instance has before its parts, and by each of them
pub ruleset grown_instances = (args_few, behind-prefix, block_read, own_behind, own_short, part_read, path_short)
