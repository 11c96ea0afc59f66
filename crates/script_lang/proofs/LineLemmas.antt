-- Lemmas about the lines of a script.
use Rattle.std.proofs.Common.{◌≡◌, ℕ, ◌<◌, List, length}
use Rattle.std.proofs.lemmas.Bool.{lt-ltb, cond-true}
use Rattle.script_lang.specs.declared.limits.TheConstants.{LINE_LIMIT}
use Rattle.script_lang.specs.declared.refusal.LineRefusal.TheVariants.{TooLong}
use Rattle.script_lang.specs.Script.{Refused, line_of}

-- a line longer than the longest line is refused, whatever it says
pub line_of-too_long : (line : List ℕ) → LINE_LIMIT < length line → line_of line ≡ Refused TooLong
line_of-too_long line long = cond-true _ _ _ (lt-ltb LINE_LIMIT (length line) long)
