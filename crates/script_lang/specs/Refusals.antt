-- Why a line of a script is refused: the number and text of each refusal.
use Rattle.std.specs.Prelude.{ℕ, List, codes, ◌==◌, if◌then◌else◌}
use Rattle.script_lang.specs.declared.refusal.LineRefusal.{LineRefusal}
use Rattle.script_lang.specs.declared.refusal.LineRefusal.TheVariants.{UnknownCommand, BadWords, BadName, BadValue, TooLong}

abbrev pub refusal_row : LineRefusal → ℕ × List ℕ
refusal_row UnknownCommand = (1, codes "unknown command")
refusal_row BadWords = (2, codes "bad words")
refusal_row BadName = (3, codes "bad name")
refusal_row BadValue = (4, codes "bad value")
refusal_row TooLong = (5, codes "line too long")

-- the refusal of a number from 1 to 5
abbrev pub refusal_of : ℕ → LineRefusal
refusal_of n =
    if n == 1 then UnknownCommand
    else if n == 2 then BadWords
    else if n == 3 then BadName
    else if n == 4 then BadValue
    else TooLong
