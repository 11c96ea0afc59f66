-- Texts that grow piece by piece, and the length of an adder's text.
use Rattle.std.proofs.Common.{◌≡◌, ℕ, zero, suc, ◌+◌, ◌*◌, ◌-◌, ◌<◌, List, ◌++◌, length, refl, ◌∙◌, ap, arith, append_assoc, length-append, if◌then◌else◌}
use Rattle.std.specs.Prelude.{Result, Ok, Err, OnOk, is_ok}
use Rattle.std.specs.List.{flat_map, range_with_len}
use Rattle.adder_load.specs.Adders.{place_lines, adder_text}

-- a piece and then more are added as one piece
pub behind : (before between after piece more : List ℕ) → between ≡ before ++ piece → after ≡ between ++ more → after ≡ before ++ (piece ++ more)
behind before between after piece more one rest = rest ∙ ap (λ text. text ++ more) one ∙ append_assoc before piece more

-- what is left of numbered things is the first of them, and then the others
pub left_more : {A : Type 0} (f : ℕ → List A) (all place : ℕ) → place < all
    → flat_map f (range_with_len place (all - place)) ≡ f place ++ flat_map f (range_with_len (place + 1) (all - (place + 1)))
left_more f all place below = let more : all - place ≡ suc (all - (place + 1)) = omega arith in rw more

places_long : (from places : ℕ) → length (flat_map place_lines (range_with_len from places)) ≡ 155 * places
places_long from zero = refl
places_long from (suc places) = grind (arith, length-append (place_lines from), places_long (from + 1) places)

pub adder_long : (places : ℕ) → length (adder_text places) ≡ 13 + 155 * places
adder_long places = omega (arith, places_long 0 places)

-- the last piece, if there was room for it
pub last_piece : {A E : Type 0} (result : Result A E) (between after more all : List ℕ) → after ≡ (if is_ok result then between ++ more else between) → (after ≡ between ++ more → after ≡ all) → OnOk result (after ≡ all)
last_piece (Ok a) between after more all is so = so is
last_piece (Err e) between after more all is so = tt
