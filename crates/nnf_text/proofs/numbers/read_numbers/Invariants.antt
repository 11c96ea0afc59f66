use Rattle.std.proofs.Common.{◌≡◌, ◌++◌}
use Rattle.std.specs.Option.{option_map}
use Rattle.text_rules.specs.Tokens.{tokens_left}
use Rattle.nnf_text.specs.GraphTexts.{numbers}
use Rattle.nnf_text.proofs.numbers.read_numbers.Given as goal

-- the numbers of all words are those so far, then those of the words left
abbrev pub invariant-loop-word : goal.invariant-loop-word
invariant-loop-word l = record {
  can_next : goal.iterator-loop-word.can_next l.word-iterator;
  is_finite : goal.iterator-loop-word.is_finite l.word-iterator;
  read : numbers (tokens_left l.fn.words) ≡ option_map (λ ns. l.kids.items ++ ns) (numbers (tokens_left l.word-iterator));
}
