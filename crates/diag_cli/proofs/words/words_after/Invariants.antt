use Rattle.std.proofs.Common.{◌≡◌, length, map, string_bytes}
use Rattle.diag_cli.specs.Words.{words_after}
use Rattle.diag_cli.proofs.words.words_after.Given as goal

-- what is left has the same words after the option
abbrev pub invariant-loop-word : goal.invariant-loop-word
invariant-loop-word l = words_after l.fn.option (map string_bytes l.fn.words) ≡ words_after l.fn.option (map string_bytes l.rest)

abbrev pub decreases-loop-word : goal.decreases-loop-word
decreases-loop-word l = length l.rest
