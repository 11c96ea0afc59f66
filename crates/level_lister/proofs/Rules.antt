-- Lemmas with which the check proves the rest of the contracts.
use Rattle.diagnosis_lister.proofs.Faults.{faults-all}
use Rattle.diagnosis_lister.proofs.OpenMarks.{length-bits, written-bits, written-small}
use Rattle.level_lister.proofs.FaultNodes.{first_is, never_faults, skipped_faults}
use Rattle.level_lister.proofs.FaultStates.{first_sound, first_whole}
use Rattle.level_lister.proofs.MovedBits.{spread_end, spread_more, spread_none, spread_skip}
use Rattle.level_lister.proofs.PairWhole.{group_sound}
use Rattle.level_lister.proofs.RisingCosts.{step-end}
use Rattle.level_lister.proofs.SetBits.{joined_above, joined_below, moved_more, moved_none}
use Rattle.level_lister.proofs.Skips.{enough_more}
use Rattle.level_lister.proofs.Sums.{sums_end, sums_flip}
use Rattle.level_lister.proofs.TestCosts.{empty_is}
use Rattle.level_lister.proofs.TwoWords.{step_below, tells_none}
use Rattle.part_sets.proofs.Children.{child-below, literal-fits}
use Rattle.part_sets.proofs.SetBits.{added_all, added_none}
use Rattle.scratch_pool.proofs.Counted.{block-below}
use Rattle.std.proofs.lemmas.Bool.{eqb-true, false≢true}
use Rattle.std.proofs.lemmas.List.Elements.{All-set}

-- the words of a node's children are within those of all nodes
pub ruleset child_places = (block-below, child-below, empty_is, never_faults)

-- the same for pairs, and the pair of no child
pub ruleset child_pairs = (block-below, child-below, false≢true, tells_none)

-- literals and skipped nodes
pub ruleset literals = (literal-fits, skipped_faults)

-- parts of the first group
pub ruleset marks = (eqb-true, first_is)

-- the bits of two words that are added
pub ruleset spreads = (spread_end, spread_more, spread_none, spread_skip)

-- sums of two sets
pub ruleset sums = (sums_end, sums_flip)

-- moved sets
pub ruleset moves = (moved_more, moved_none)

-- additions of a set to another
pub ruleset additions = (added_all, added_none)

-- two words read as one
pub ruleset joined_words = (joined_above, joined_below)

-- what the words say of a group
pub ruleset group_faults = (group_sound, step_below)

-- what the sets say of the first group
pub ruleset first_faults = (false≢true, first_sound, first_whole)

-- evidence in which a word is set, and the states that it leaves
pub ruleset fixed_words = (All-set, enough_more, faults-all, length-bits)

-- a state read from evidence
pub ruleset states_read = (written-bits, written-small)

-- no state is left
pub ruleset ends = (step-end)
