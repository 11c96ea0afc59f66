-- The items of replies.
use Rattle.std.specs.Prelude.{ℕ, Bool, List}
use Rattle.text_rules.specs.Tokens.{spaced}
use Rattle.device_model.specs.Devices.{Device}

-- A text, or a graph whose text is left open: over `parts` parts, true for these states alone; the same and smooth; or over `vars`
-- variables, with at most `most` nodes, true if this device fits.
pub data Item : Type 0 where
  Plain : (bytes : List ℕ) → Item
  Projected : (parts : ℕ) (states : List (List Bool)) → Item
  LeastText : (parts : ℕ) (states : List (List Bool)) → Item
  Whole : (device : Device) (vars most : ℕ) → Item

-- a line of words
abbrev pub line : List (List ℕ) → Item
line words = Plain (spaced words)
