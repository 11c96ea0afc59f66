-- Words in letters of any case.
use Rattle.std.proofs.Common.{◌≡◌, ℕ, true, List, [], ◌∷◌, map, refl, arith}
use Rattle.std.specs.List.{list_all}
use Rattle.std.specs.Char.{to_ascii_lowercase}
use Rattle.device_model.specs.declared.gates.Kind.{Kind}
use Rattle.device_model.specs.Gates.{word}
use Rattle.bench_reader.specs.Statements.{capitals}
use Rattle.bench_reader.specs.inner.Lines.{is_capital}

pub capitals_from_lower : (word keyword : List ℕ) → list_all is_capital keyword ≡ true → map to_ascii_lowercase word ≡ map to_ascii_lowercase keyword → capitals word ≡ keyword
capitals_from_lower [] [] h e = refl
capitals_from_lower [] (k ∷ keyword) h e = cc
capitals_from_lower (b ∷ word) [] h e = cc
capitals_from_lower (b ∷ word) (k ∷ keyword) h e = grind (arith, capitals_from_lower word keyword)

pub lower_from_capitals : (word keyword : List ℕ) → list_all is_capital keyword ≡ true → capitals word ≡ keyword → map to_ascii_lowercase word ≡ map to_ascii_lowercase keyword
lower_from_capitals [] keyword h e = grind arith
lower_from_capitals (b ∷ word) [] h e = cc
lower_from_capitals (b ∷ word) (k ∷ keyword) h e = grind (arith, lower_from_capitals word keyword)

-- the words of gates are in capital letters
pub capitals-kind : (kind : Kind) → list_all is_capital (word kind) ≡ true
capitals-kind kind = grind arith
