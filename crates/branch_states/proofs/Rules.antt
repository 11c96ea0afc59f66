-- Lemmas by which the check finds the rest of what functions require and ensure.
use Rattle.std.proofs.lemmas.List.{length-take, take_all}
use Rattle.state_rules.proofs.Lists.{length-filter-le}
use Rattle.forest_states.proofs.WordBits.{byte-bit, no-bits, word-bit, word-put_bits}
use Rattle.branch_states.proofs.ChainSteps.{chain_steps, range_next, trees_are}
use Rattle.branch_states.proofs.FoundOrder.{order-few}
use Rattle.branch_states.proofs.OneStep.{count-more, filter-room, stepped-none}

-- no bits in words
pub ruleset empty_words = (no-bits, take_all)

-- a bit of words
pub ruleset bits_read = (word-bit)

-- a bit put into words
pub ruleset bits_put = (byte-bit, word-put_bits)

-- an order has no more variables than the clauses
pub ruleset few_variables = (order-few, take_all)

-- the steps of a chain
pub ruleset chain_steps_found = (chain_steps, range_next, trees_are)

-- the clauses that are active so far
pub ruleset counted_clauses = (count-more, length-filter-le, length-take)

-- what is read and written has room
pub ruleset stepped_clauses = (count-more, filter-room, length-filter-le, length-take, stepped-none)
