-- Literals that say the bits of the first parts.
use Rattle.std.proofs.Common.{◌≡◌, ℕ, ◌+◌, ◌-◌, ◌<◌, ◌≤◌, Bool, true, List, [], ◌∷◌, length, take, get_or, set, ℤ, pos, ap, ◌∙◌, arith}
use Rattle.std.proofs.lemmas.Bool.{and_from, le-leb}
use Rattle.std.proofs.lemmas.List.{get_or-take, get_or-map, get_or_default, length-take-le, map-set, length-map, get_or-set_same, get_or-set_other}
use Rattle.std.proofs.lemmas.List.Sums.{list_all-from_AllPass}
use Rattle.std.specs.List.{list_all}
use Rattle.state_rules.specs.Bits.{bit_in, same_bit, AlikeBelow}
use Rattle.state_rules.specs.Assignments.{Assignment, assignment}
use Rattle.state_rules.proofs.Bits.{same_bit-equal, same_bit-refl}
use Rattle.state_rules.proofs.Lists.{list_all-at}
use Rattle.clause_encoder.specs.Clauses.{is_positive, var_of}
use Rattle.clause_search.specs.Searching.{holds, all_true, is_within, are_within}
use Rattle.clause_answers.specs.inner.Listed.{AreOrdered, signs}

all-first : (p : ℤ → Bool) (literals : List ℤ) (n : ℕ) → n ≤ length literals → ((i : ℕ) → i < n → p (get_or literals i (pos 0)) ≡ true) → list_all p (take n literals) ≡ true
all-first p literals n le each = list_all-from_AllPass p (take n literals) (λ i d lt. grind (arith, length-take-le, get_or-take, get_or_default))

pub within-first : (literals : List ℤ) (n vars : ℕ) → n ≤ length literals → n ≤ vars → AreOrdered literals n → are_within vars (take n literals) ≡ true
within-first literals n vars le few ordered = all-first (is_within vars) literals n le (λ i lt.
    let v : ℕ = var_of (get_or literals i (pos 0)) in and_from _ _ (le-leb 1 v (omega (arith, ordered i lt))) (le-leb v vars (omega (arith, ordered i lt))))

pub length-signs : (literals : List ℤ) → length (signs literals) ≡ length literals
length-signs literals = length-map literals is_positive

-- the bit that a literal says
pub said : (literals : List ℤ) (i : ℕ) → i < length literals → bit_in (signs literals) i ≡ is_positive (get_or literals i (pos 0))
said literals i lt = get_or-map is_positive literals i (pos 0) _ lt

pub alike-first : (literals : List ℤ) (n : ℕ) (b : List Bool) → n ≤ length literals → AreOrdered literals n → all_true (assignment b) (take n literals) ≡ true → AlikeBelow n b (signs literals)
alike-first literals n b le ordered e i lt =
    let at = list_all-at (holds (assignment b)) (take n literals) i (pos 0) e in
    grind (arith, length-take-le, get_or-take, said, ordered i lt, same_bit-equal)

pub first-alike : (literals : List ℤ) (n : ℕ) (b : List Bool) → n ≤ length literals → AreOrdered literals n → AlikeBelow n b (signs literals) → all_true (assignment b) (take n literals) ≡ true
first-alike literals n b le ordered alike = all-first (holds (assignment b)) literals n le (λ i lt. grind (arith, said, ordered i lt, alike i lt, same_bit-refl))

-- ---- one literal

-- the literal that the part at a place has a bit
abbrev pub Says : ℤ → ℕ → Bool → Type 0
Says l place bit = (a : Assignment) → holds a l ≡ same_bit bit (a (place + 1))

pub one-true : (l : ℤ) (place : ℕ) (bit : Bool) (b : List Bool) → Says l place bit → all_true (assignment b) (l ∷ []) ≡ same_bit bit (bit_in b place)
one-true l place bit b says =
    let same : place + 1 - 1 ≡ place = omega arith in
    grind (arith, says (assignment b), ap (bit_in b) same)

pub signs-front : (literals : List ℤ) (place : ℕ) (l : ℤ) (i : ℕ) → i < place → bit_in (signs (set literals place l)) i ≡ bit_in (signs literals) i
signs-front literals place l i lt = grind (arith, map-set, get_or-set_other)

pub signs-here : (literals : List ℤ) (place : ℕ) (l : ℤ) (bit : Bool) → place < length literals → Says l place bit → bit_in (signs (set literals place l)) place ≡ bit
signs-here literals place l bit lt says =
    let positive : is_positive l ≡ bit = grind (arith, says (λ _. true)) in
    grind (arith, map-set, length-map, get_or-set_same)
