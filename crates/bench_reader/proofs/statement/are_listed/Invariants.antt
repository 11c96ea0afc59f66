use Rattle.std.proofs.Common.{◌≡◌, ◌∷◌, is_some, length}
use Rattle.text_rules.specs.Tokens.{tokens_left}
use Rattle.bench_reader.specs.Statements.{listed_from}
use Rattle.bench_reader.proofs.statement.are_listed.Given as goal

abbrev pub invariant-loop-tokens : goal.invariant-loop-tokens
invariant-loop-tokens l = is_some (listed_from (l.fn.word ∷ tokens_left l.fn.tokens)) ≡ is_some (listed_from (l.word ∷ tokens_left l.tokens))

abbrev pub decreases-loop-tokens : goal.decreases-loop-tokens
decreases-loop-tokens l = length (tokens_left l.tokens)
