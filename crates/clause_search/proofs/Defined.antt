-- Variables that are defined by counts.
use Rattle.std.proofs.Common.{◌≡◌, ℕ, zero, suc, ◌+◌, ◌-◌, ◌<◌, ◌≤◌, true, false, List, [], ◌∷◌, ◌++◌, length, get_or, take, ℤ, pos, negsuc, refl, arith}
use Rattle.std.specs.Prelude.{nat_le}
use Rattle.state_rules.specs.Bits.{same_bit}
use Rattle.state_rules.specs.Assignments.{Assignment}
use Rattle.std.specs.List.{list_all}
use Rattle.std.proofs.lemmas.Bool.Decides.{nat_tests}
use Rattle.clause_search.specs.Searching.{false_weight, respects, priced, is_within, are_ordered}
use Rattle.clause_search.specs.declared.weighted.Weighted.{Weighted}
use Rattle.clause_search.specs.inner.Marks.{Agrees}

-- each of the definitions that are respected
pub respects_at : (a : Assignment) (v i : ℕ) (members : List (List Weighted)) (limits : List ℕ) → respects a v members limits ≡ true → i < length members → i < length limits
    → same_bit (a (v + i)) (nat_le (false_weight a (get_or members i [])) (get_or limits i 0)) ≡ true
respects_at a v i [] limits e h k = absurd (omega arith)
respects_at a v i (m ∷ members) [] e h k = absurd (omega arith)
respects_at a v zero (m ∷ members) (n ∷ limits) e h k = let same : v + 0 ≡ v = omega arith in grind arith
respects_at a v (suc i) (m ∷ members) (n ∷ limits) e h k = let same : v + suc i ≡ (v + 1) + i = omega arith in grind (arith, respects_at a (v + 1) i members limits)

-- Without the last definition the others are still respected.
pub respects_less : (a : Assignment) (v : ℕ) (members : List (List Weighted)) (limits : List ℕ) (m : List Weighted) (n : ℕ) → respects a v (members ++ m ∷ []) (limits ++ n ∷ []) ≡ true
    → respects a v members limits ≡ true
respects_less a v [] limits m n e = refl
respects_less a v (h ∷ members) [] m n e = refl
respects_less a v (h ∷ members) (k ∷ limits) m n e = grind (arith, respects_less a (v + 1) members limits m n)

-- marks of variables
pub marked_false : (a : Assignment) (marks : List ℕ) (v : ℕ) → Agrees a marks → get_or marks v 0 ≡ 1 → a v ≡ false
marked_false a marks v g e = grind (arith, g.falsified (pos v))

pub marked_true : (a : Assignment) (marks : List ℕ) (v : ℕ) → Agrees a marks → 0 < v → get_or marks v 0 ≡ 2 → a v ≡ true
marked_true a marks zero g h e = absurd (omega arith)
marked_true a marks (suc n) g h e = let same : suc n ≡ n + 1 = omega arith in grind (arith, g.falsified (negsuc n))

-- The first definitions of ordered ones are ordered.
pub ordered_take : (v n : ℕ) (members : List (List Weighted)) → are_ordered v members ≡ true → are_ordered v (take n members) ≡ true
ordered_take v zero members o = refl
ordered_take v (suc n) [] o = refl
ordered_take v (suc n) (m ∷ members) o = grind (arith, ordered_take (v + 1) n members)

-- So are these and one more, whose members have variables before it.
pub ordered_more : (v : ℕ) (members : List (List Weighted)) (m : List Weighted) → are_ordered v members ≡ true
    → list_all (λ (w : Weighted). is_within (v + length members - 1) w.literal) m ≡ true → are_ordered v (members ++ m ∷ []) ≡ true
ordered_more v [] m o w = let same : v + 0 ≡ v = omega arith in grind arith
ordered_more v (h ∷ members) m o w = let same : v + suc (length members) ≡ v + 1 + length members = omega arith in grind (arith, ordered_more (v + 1) members m)

-- The parts are among the first variables.
priced-within : (v n : ℕ) (costs : List ℕ) → 1 ≤ v → v + length costs ≤ n + 1 → list_all (λ (w : Weighted). is_within n w.literal) (priced v costs) ≡ true
priced-within v n [] f h = refl
priced-within v n (c ∷ costs) f h = grind (arith, nat_tests, priced-within (v + 1) n costs)

pub priced_ordered : (vars : ℕ) (costs : List ℕ) → length costs ≤ vars → are_ordered (vars + 1) (priced 1 costs ∷ priced 1 costs ∷ []) ≡ true
priced_ordered vars costs h = grind (arith, priced-within 1 vars costs (omega arith) (omega (arith, h)), priced-within 1 (vars + 1) costs (omega arith) (omega (arith, h)))

-- what the definitions name
pub ruleset defining = (respects_less, ordered_more)
