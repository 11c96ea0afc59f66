-- Lemmas by which the check finds the rest of what functions require and ensure.
use Rattle.scratch_pool.proofs.Counted.{block-below}
use Rattle.part_sets.proofs.Children.{child-below}
use Rattle.part_sets.proofs.MissingNumbers.{first_missing, gap-fits, lowest-low, none_before, none_missing}
use Rattle.part_sets.proofs.Flags.{flags_more, none_lacking}
use Rattle.part_sets.proofs.SetBits.{added_all, added_none}

-- words to which another is added
pub ruleset added_words = (added_all, added_none)

-- the first number that is missing
pub ruleset missing_numbers = (first_missing, gap-fits, lowest-low, none_before, none_missing)

-- the words of a node's children are within those of all nodes
pub ruleset child_places = (block-below, child-below)

-- the same, and what the sets of children lack
pub ruleset lacking_children = (block-below, child-below, none_lacking)

-- the words of nodes one after the other
pub ruleset lacking_nodes = (block-below, flags_more)
