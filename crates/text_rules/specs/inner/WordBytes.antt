-- The bytes of words.
use Rattle.std.specs.Prelude.{ℕ, Bool, not, ◌&&◌}
use Rattle.text_rules.specs.Tokens.{is_blank, stands_alone}

-- whether a byte is neither a blank nor a mark that is a token of its own
abbrev pub is_word_byte : Bool → ℕ → Bool
is_word_byte marks b = not (is_blank b) && not (stands_alone marks b)
