-- Inner variables whose bits the others settle: some bits of them make all clauses true exactly if the rest of the
-- clauses is true.
use Rattle.std.proofs.Common.{◌≡◌, ℕ, ◌+◌, Bool, true, false, ◌&&◌, ◌||◌, List, [], ◌∷◌, ◌++◌, map, length, ap, ◌∙◌, arith, append_assoc}
use Rattle.std.specs.List.{list_any}
use Rattle.std.proofs.lemmas.List.{get_or-append_right, length-append}
use Rattle.std.proofs.lemmas.List.Folds.{list_all-append, list_any-append}
use Rattle.std.proofs.Math.Bool.{or-false}
use Rattle.state_rules.specs.Bits.{same_bit, lists_of_bits}
use Rattle.state_rules.specs.Assignments.{Assignment, assignment}
use Rattle.state_rules.proofs.Lists.{list_any-map, any-never}
use Rattle.state_rules.proofs.Members.{any_same}
use Rattle.clause_encoder.specs.Clauses.{Clause, all_hold}

-- whether the variables from z on have these bits
abbrev pub has_bits : Assignment → ℕ → List Bool → Bool
has_bits a z [] = true
has_bits a z (b ∷ bits) = same_bit b (a z) && has_bits a (z + 1) bits

-- The clauses settle the bits of the variables from z on, and leave a condition on others.
abbrev pub Settles : Assignment → ℕ → List Clause → List Bool → Bool → Type 0
Settles a z clauses bits rest = all_hold a clauses ≡ (has_bits a z bits && rest)

and_swap_inner : (b c d e : Bool) → ((b && c) && (d && e)) ≡ ((b && d) && (c && e))
and_swap_inner b c d e = grind arith

pub has_bits-append : (a : Assignment) (z : ℕ) (bits more : List Bool) → has_bits a z (bits ++ more) ≡ (has_bits a z bits && has_bits a (z + length bits) more)
has_bits-append a z [] more = grind arith
has_bits-append a z (b ∷ bits) more = grind (arith, has_bits-append a (z + 1) bits more)

-- the inner variables of the second clauses come after those of the first
pub Settles-append : (a : Assignment) (z y : ℕ) (cs ds : List Clause) (bits more : List Bool) (rest others : Bool) → y ≡ z + length bits
    → Settles a z cs bits rest → Settles a y ds more others → Settles a z (cs ++ ds) (bits ++ more) (rest && others)
Settles-append a z y cs ds bits more rest others at first second = grind (arith, list_all-append, at, and_swap_inner, has_bits-append)

-- ---- some bits of the inner variables

one_of_both : (b rest : Bool) → ((same_bit b false && rest) || (same_bit b true && rest)) ≡ rest
one_of_both b rest = grind arith

-- the bits after a list, as variables
front-bits : (front : List Bool) (c : Bool) (inner bits : List Bool) (b : Bool)
    → has_bits (assignment (front ++ c ∷ inner)) (length front + 1) (b ∷ bits)
    ≡ (same_bit b c && has_bits (assignment ((front ++ c ∷ []) ++ inner)) (length (front ++ c ∷ []) + 1) bits)
front-bits front c inner bits b = grind (arith, get_or-append_right, append_assoc, length-append)

pub some-settled : (bits front : List Bool) (rest : Bool)
    → list_any (λ inner. has_bits (assignment (front ++ inner)) (length front + 1) bits && rest) (lists_of_bits (length bits)) ≡ rest
some-settled [] front rest = or-false rest
some-settled (b ∷ bits) front rest =
    list_any-append test (map (λ bs. false ∷ bs) tails) (map (λ bs. true ∷ bs) tails)
    ∙ (λ i. list_any-map test (λ bs. false ∷ bs) tails i || list_any-map test (λ bs. true ∷ bs) tails i)
    ∙ (λ i. half (λ c. some-settled bits (front ++ c ∷ []) rest) false i || half (λ c. some-settled bits (front ++ c ∷ []) rest) true i)
    ∙ one_of_both b rest where
      tails : List (List Bool)
      tails = lists_of_bits (length bits)

      test : List Bool → Bool
      test inner = has_bits (assignment (front ++ inner)) (length front + 1) (b ∷ bits) && rest

      below : Bool → List Bool → Bool
      below c inner = has_bits (assignment ((front ++ c ∷ []) ++ inner)) (length (front ++ c ∷ []) + 1) bits

      by_bit : (same c : Bool) → list_any (λ inner. below c inner && rest) tails ≡ rest → list_any (λ inner. (same && below c inner) && rest) tails ≡ (same && rest)
      by_bit true c h = h
      by_bit false c h = any-never tails

      half : ((c : Bool) → list_any (λ inner. below c inner && rest) tails ≡ rest) → (c : Bool) → list_any (λ inner. test (c ∷ inner)) tails ≡ (same_bit b c && rest)
      half shorter c = any_same (λ inner. test (c ∷ inner)) (λ inner. (same_bit b c && below c inner) && rest) tails (λ inner _. ap (λ t. t && rest) (front-bits front c inner bits b))
          ∙ by_bit (same_bit b c) c (shorter c)

-- some bits of the inner variables make all clauses true exactly if the rest is true
pub some-hold : (clauses : List Clause) (bits front : List Bool) (rest : Bool)
    → ((inner : List Bool) → Settles (assignment (front ++ inner)) (length front + 1) clauses bits rest)
    → list_any (λ inner. all_hold (assignment (front ++ inner)) clauses) (lists_of_bits (length bits)) ≡ rest
some-hold clauses bits front rest h =
    any_same (λ inner. all_hold (assignment (front ++ inner)) clauses) (λ inner. has_bits (assignment (front ++ inner)) (length front + 1) bits && rest) (lists_of_bits (length bits)) (λ inner _. h inner)
    ∙ some-settled bits front rest
