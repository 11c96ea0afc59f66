-- The whole lines of a text stay if more follows it.
use Rattle.std.proofs.Common.{◌≡◌, ℕ, List, [], ◌∷◌, ◌++◌, refl, ap, append_assoc, arith}
use Rattle.text_rules.specs.TextLines.{Cut, cut, last_line, whole_lines, all_lines}

-- lines before those of a cut text
abbrev behind : List (List ℕ) → Cut → Cut
behind lines c = record { whole = lines ++ c.whole; unfinished = c.unfinished }

-- What is left after the last line feed begins what follows.
pub cut-append : (bytes more : List ℕ) → cut (bytes ++ more) ≡ record {
  whole = whole_lines bytes ++ whole_lines ((cut bytes).unfinished ++ more);
  unfinished = (cut ((cut bytes).unfinished ++ more)).unfinished;
}
cut-append [] more = refl
cut-append (b ∷ bytes) more = grind (arith, cut-append bytes more)

-- whole lines begin with those of the front
pub whole_lines-front : (bytes more : List ℕ) → (rest : List (List ℕ)) × (whole_lines (bytes ++ more) ≡ whole_lines bytes ++ rest)
whole_lines-front bytes more = (whole_lines ((cut bytes).unfinished ++ more), ap (λ (c : Cut). c.whole) (cut-append bytes more))

-- so do all lines
pub all_lines-front : (bytes more : List ℕ) → (rest : List (List ℕ)) × (all_lines (bytes ++ more) ≡ whole_lines bytes ++ rest)
all_lines-front bytes more =
    let left = (cut bytes).unfinished ++ more in grind (arith, cut-append bytes more, append_assoc (whole_lines bytes) (whole_lines left) (last_line (cut left).unfinished))
