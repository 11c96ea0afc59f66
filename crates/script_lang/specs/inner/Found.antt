-- What is found in the text after a command.
use Rattle.std.specs.Prelude.{ℕ, List, [], ◌∷◌, Option, Some, None, Result, Ok, Err}
use Rattle.script_lang.specs.declared.refusal.LineRefusal.{LineRefusal}
use Rattle.script_lang.specs.Script as script

-- the line of what was found, or the refusal
abbrev pub asked_by : {Found : Type 0} → (Found → script.Line) → Result Found LineRefusal → script.Line
asked_by ask (Ok found) = ask found
asked_by ask (Err refusal) = script.Refused refusal

-- the word of a text of one word
abbrev pub only_word : List (List ℕ) → Option (List ℕ)
only_word (word ∷ []) = Some word
only_word ws = None

-- the words of a text of two words
abbrev pub only_two_words : List (List ℕ) → Option (List ℕ × List ℕ)
only_two_words (first ∷ second ∷ []) = Some (first, second)
only_two_words ws = None
