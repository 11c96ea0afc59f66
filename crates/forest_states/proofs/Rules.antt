-- Lemmas by which the check finds the rest of what functions require and ensure.
use Rattle.elimination_forests.proofs.Chains.{different-different}
use Rattle.elimination_forests.proofs.MetOrder.{clauses-valid}
use Rattle.forest_states.proofs.BitRuns.{flags-next, flags-on, flags-other, flags-picked, flags-rest, length-picked, picked-end, picked-last, picked-on}
use Rattle.forest_states.proofs.ClausesByVariable.{rises}
use Rattle.forest_states.proofs.KeptStates.{word-at}
use Rattle.forest_states.proofs.MarkedVariables.{numbered-more, numbered-none}
use Rattle.forest_states.proofs.Masking.{filled-last, left-alive, left-dead, map-plain, row-both, row-one, row-ones, row-padded}
use Rattle.forest_states.proofs.MetClauses.{last-kept, last-transitions}
use Rattle.forest_states.proofs.Sizes.{picked-size, sized, successor-size}
use Rattle.forest_states.proofs.Spread.{byte-low, length-spread, plain-is, spread-change, spread-next, spread-rest, spread-run, successor-rest, told-all, told-more, told-within}
use Rattle.forest_states.proofs.WordBits.{mask-is, number-drop, number-take, word-bits, word-put_bits, word-with}
use Rattle.forest_states.proofs.Words.{are-one, bits-one, copied-number, copied-past, length-bits, length-copied, words-many}
use Rattle.state_rules.proofs.Lists.{list_all-at}
use Rattle.std.proofs.lemmas.List.{append-nil, drop_all, get_or_past, length-append, length-map, length-replicate, length-set, take_all}
use Rattle.std.proofs.lemmas.List.FromFn.{get_or-map-range_with_len}
use Rattle.std.proofs.lemmas.Nat.{and_mask, pow_pos}

pub ruleset bit_list_append_steps = (append-nil, length-append, length-bits, length-copied)

pub ruleset bit_lengths = (length-bits)

pub ruleset bit_list_of_word_steps = (are-one, bits-one)

pub ruleset put_row_steps = (word-put_bits)

pub ruleset bits_at_steps = (get_or-map-range_with_len, get_or_past, length-bits, words-many)

pub ruleset bits_read_steps = (copied-number, copied-past, length-bits, word-bits, words-many)

pub ruleset find_clauses_steps = (clauses-valid, list_all-at, rises)

pub ruleset write_trees_steps = (length-set, numbered-more, numbered-none)

pub ruleset masks_leave_steps = (left-alive, left-dead, length-picked)

pub ruleset masks_skip_steps = (length-append, length-replicate, map-plain, row-padded)

pub ruleset masks_successors_steps = (length-map)

pub ruleset picks_push_steps = (flags-next, flags-other, flags-picked)

pub ruleset add_picked_steps = (drop_all, flags-on, length-append, length-copied, picked-last, picked-on)

pub ruleset fill_row_steps = (drop_all, filled-last, flags-on, flags-rest)

pub ruleset pick_row_steps = (drop_all, flags-on, flags-rest, length-append, length-copied, picked-end)

pub ruleset go_by_bit_steps = (sized, successor-size)

pub ruleset go_down_steps = (different-different)

pub ruleset go_to_steps = (picked-size)

pub ruleset words_at_steps = (length-map, word-at)

pub ruleset find_table_steps = (drop_all, last-kept, last-transitions)

pub ruleset find_masks_steps = (spread-next, spread-rest, take_all)

pub ruleset successor_steps = (byte-low, drop_all, length-append, length-copied, successor-rest, told-all, told-more, told-within)

-- bits of a word
pub ruleset row_steps = (and_mask, copied-number, mask-is, number-drop, number-take, pow_pos, row-both, row-one, row-ones, word-with)

-- one run
pub ruleset run_steps = (length-append, length-copied, length-replicate)

-- changes, and clauses that stay as they are
pub ruleset table_steps = (length-spread, plain-is, spread-change, spread-run)
