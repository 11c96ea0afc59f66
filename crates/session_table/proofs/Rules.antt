-- Lemmas by which the check finds the rest of what functions require and ensure.
use Rattle.session_table.proofs.Changes.{entry_here, found-within, gave, is_laid_out, is_out, shows_given, shows_taken, shows_written, took, written}
use Rattle.session_table.proofs.KeptBlocks.{given_last, out_last}
use Rattle.session_table.proofs.NotedEvidence.{noted-entry}

-- a session at a place has a block, which holds its entry
pub ruleset blocks_at_places = (entry_here, is_laid_out, is_out)

-- the same, and what holds once its words were written
pub ruleset written_blocks = (entry_here, is_laid_out, is_out, shows_written, written)

-- and once it was given back
pub ruleset given_blocks = (gave, is_out, shows_given)

-- what is found by a name is within the table
pub ruleset found_places = (found-within)

-- what holds once a block was taken for a name
pub ruleset taken_blocks = (shows_taken, took)

-- the last session's block
pub ruleset last_blocks = (given_last, out_last)

-- what is noted in a block
pub ruleset noted_words = (noted-entry)
