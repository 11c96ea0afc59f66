-- What a bit of a variable leaves of a list, and the parts of a list, by the bits of the active clauses.
use Rattle.std.proofs.Common.{arith, ◌≡◌, ℕ, Bool, true, false, not, ◌&&◌, ◌||◌, List, [], ◌∷◌, map, Some, None, refl}
use Rattle.std.specs.Prelude.{Option, if◌then◌else◌}
use Rattle.std.specs.List.{filter, AllByRecursion}
use Rattle.clause_encoder.specs.Clauses.{Clause}
use Rattle.elimination_forests.specs.Branches.{has_true, without, some_passes, bits_of}
use Rattle.elimination_forests.specs.Forests.{meets, is_within}
use Rattle.forest_states.specs.declared.transition_tables.ClauseTransition.{ClauseTransition}
use Rattle.forest_states.specs.inner.TransitionTables.{true_at}
use Rattle.forest_states.specs.inner.Descents.{ended, successor, picked}
use Rattle.forest_states.proofs.OneClause.{is_active, is_met, meets-more, true-apart}

-- what is known of the lists of a tree with these variables: a clause that does not meet them is in none, and an untouched one in each
abbrev pub IsKnown : List ℕ → List ℕ → List Clause → List Bool → Type 0
IsKnown vs bound [] [] = Unit {0}
IsKnown vs bound [] (b ∷ list) = ⊥
IsKnown vs bound (c ∷ clauses) [] = ⊥
IsKnown vs bound (c ∷ clauses) (b ∷ list) =
    (meets vs c ≡ false → b ≡ false) × (meets bound c ≡ false → meets vs c ≡ true → b ≡ true) × IsKnown vs bound clauses list

-- A clause of a tree ends if it meets no variable below the root.
abbrev pub Ends : ℕ → List ℕ → List ℕ → Clause → Type 0
Ends v ws bound c = meets (v ∷ ws) c ≡ true → is_within (v ∷ bound) c ≡ not (meets ws c)

-- what a bit of a variable does to a clause
abbrev pub transition_of : ℕ → List ℕ → Clause → ClauseTransition
transition_of v bound c =
    record { fresh = not (meets bound c); true_at_0 = has_true v false c; true_at_1 = has_true v true c; ends = is_within (v ∷ bound) c }

-- the same for those that are met
abbrev pub table_of : ℕ → List ℕ → List ℕ → List Clause → List ClauseTransition
table_of v ws bound cs = map (transition_of v bound) (filter (is_met v ws bound) cs)

-- a list, or none if it is dead
abbrev pub unless : Bool → List Bool → Option (List Bool)
unless true list = None
unless false list = Some list

-- ---- one clause

true-transition : (v : ℕ) (bound : List ℕ) (c : Clause) (bit : Bool) → true_at (transition_of v bound c) bit ≡ has_true v bit c
true-transition v bound c bit = grind arith

-- one that is met
ended-unless : (ends left dead : Bool) (rest : List Bool) → ended ends left (unless dead rest) ≡ unless ((left && ends) || dead) (if not ends then left ∷ rest else rest)
ended-unless ends left dead rest = grind arith

module _ (v : ℕ) (ws bound : List ℕ) (bit : Bool) where
  -- ---- all clauses

  -- The successor of a list's state is the state of what the bit leaves of the list, if that is not dead.
  pub successor-same : (cs : List Clause) (list : List Bool) → AllByRecursion (Ends v ws bound) cs → IsKnown (v ∷ ws) bound cs list
      → successor bit (table_of v ws bound cs) (bits_of (is_active (v ∷ ws) bound) cs list)
      ≡ unless (some_passes (is_within (v ∷ bound)) cs (without (has_true v bit) cs list)) (bits_of (is_active ws (v ∷ bound)) cs (without (has_true v bit) cs list))
  successor-same [] [] ends known = refl
  successor-same [] (b ∷ list) ends known = absurd known
  successor-same (c ∷ cs) [] ends known = absurd known
  successor-same (c ∷ cs) (b ∷ list) ends known = grind (arith, successor-same cs list ends.1 known.2, known.0, known.1, ends.0, meets-more v ws c, meets-more v bound c, true-transition v bound c bit, ended-unless, true-apart v bit c)

  -- what is left is known, if it is not dead
  pub known-next : (cs : List Clause) (list : List Bool) → AllByRecursion (Ends v ws bound) cs → IsKnown (v ∷ ws) bound cs list
      → some_passes (is_within (v ∷ bound)) cs (without (has_true v bit) cs list) ≡ false → IsKnown ws (v ∷ bound) cs (without (has_true v bit) cs list)
  known-next [] [] ends known alive = tt
  known-next [] (b ∷ list) ends known alive = absurd known
  known-next (c ∷ cs) [] ends known alive = absurd known
  known-next (c ∷ cs) (b ∷ list) ends known alive = (
    (λ n. grind (arith, known.0, ends.0, alive)),
    (λ m n. grind (arith, known.1, meets-more v ws c, meets-more v bound c, true-apart v bit c)),
    known-next cs list ends.1 known.2 (grind (arith, alive)),
  )

-- ---- lists and their bits at active clauses

module _ (vs bound : List ℕ) where
  -- Known lists with the same bits are the same.
  pub bits-lists : (cs : List Clause) (x y : List Bool) → IsKnown vs bound cs x → IsKnown vs bound cs y → bits_of (is_active vs bound) cs x ≡ bits_of (is_active vs bound) cs y → x ≡ y
  bits-lists [] [] [] known others same = refl
  bits-lists [] (b ∷ x) y known others same = absurd known
  bits-lists [] [] (d ∷ y) known others same = absurd others
  bits-lists (c ∷ cs) [] y known others same = absurd known
  bits-lists (c ∷ cs) (b ∷ x) [] known others same = absurd others
  bits-lists (c ∷ cs) (b ∷ x) (d ∷ y) known others same = grind (arith, bits-lists cs x y known.2 others.2, known.0, known.1, others.0, others.1)

  -- ---- the part of a tree

  module _ (own : List ℕ) (inside : (c : Clause) → meets own c ≡ true → meets vs c ≡ true) where
    abbrev part_at : List Clause → List Bool → List Bool
    part_at cs list = without (λ c. not (meets own c)) cs list

    -- What is picked of a list's state is the state of the part.
    pub picked-same : (cs : List Clause) (list : List Bool) → IsKnown vs bound cs list
        → picked (map (meets own) (filter (is_active vs bound) cs)) (bits_of (is_active vs bound) cs list) ≡ bits_of (is_active own bound) cs (part_at cs list)
    picked-same [] list known = refl
    picked-same (c ∷ cs) [] known = absurd known
    picked-same (c ∷ cs) (b ∷ list) known = grind (arith, picked-same cs list known.2, inside c)

    pub known-part : (cs : List Clause) (list : List Bool) → IsKnown vs bound cs list → IsKnown own bound cs (part_at cs list)
    known-part [] [] known = tt
    known-part [] (b ∷ list) known = absurd known
    known-part (c ∷ cs) [] known = absurd known
    known-part (c ∷ cs) (b ∷ list) known = (
      (λ p. grind arith),
      (λ m p. grind (arith, known.1, inside c)),
      known-part cs list known.2,
    )
