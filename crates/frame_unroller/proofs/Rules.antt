-- Lemmas by which the check finds the rest of what functions require and ensure.
use Rattle.std.proofs.Common.{length-append}
use Rattle.std.proofs.lemmas.List.{append_assoc, length-map, take_all}
use Rattle.std.proofs.lemmas.List.FromFn.{length-range_with_len}
use Rattle.state_rules.proofs.Lists.{range_more}
use Rattle.frame_unroller.proofs.SharedVariables.{variable-within}
use Rattle.frame_unroller.proofs.TimeCopies.{length-copies}

pub ruleset copies_counted = (length-copies, take_all)

pub ruleset shared_variables = (append_assoc, length-append, length-map, length-range_with_len, range_more, variable-within)
