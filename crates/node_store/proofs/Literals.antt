-- The literals that a new store holds.
use Rattle.std.proofs.Common.{◌≡◌, ℕ, zero, suc, ◌+◌, ◌-◌, ◌*◌, ◌<◌, ◌≤◌, Bool, true, false, not, List, [], ◌∷◌, ◌++◌, length, Some, refl, ap, ◌∙◌, subst, arith, inl, inr, length-append}
use Rattle.std.specs.Prelude.{slice_get, ◌==◌, ◌⊎◌}
use Rattle.std.proofs.lemmas.Bool.{le-leb}
use Rattle.std.proofs.lemmas.List.Sums.{sum_by-append}
use mir.Val.{bool_byte}
use Rattle.state_rules.specs.Bits.{same_bit}
use Rattle.state_rules.specs.Assignments.{Assignment}
use Rattle.state_rules.proofs.Lists.{slice_get-before}
use Rattle.state_rules.specs.Graphs.{Node, literal_node, truth_by, mention_by, is_true, mentions, AreNodes, node_fits, edges}
use Rattle.state_rules.proofs.NodeValues.{value_of-get}
use Rattle.state_rules.proofs.NodesFit.{fits-get, AreNodes-push}
use Rattle.node_store.specs.declared.store.TheConstants.{VARIABLE_LIMIT}
use Rattle.node_store.specs.Stores.{Stored, IsStore, EachOnce, literals, literal_place}
use Rattle.node_store.specs.inner.Literals.{IsNew}

slice_get-behind : (xs ys : List Node) (j : ℕ) → length xs ≤ j → slice_get (xs ++ ys) j ≡ slice_get ys (j - length xs)
slice_get-behind [] ys j h = grind arith
slice_get-behind (x ∷ xs) ys zero h = absurd (omega arith)
slice_get-behind (x ∷ xs) ys (suc j) h = grind (arith, slice_get-behind xs ys j)

slice_get-parts : (xs ys : List Node) (i : ℕ) (x : Node) → slice_get (xs ++ ys) i ≡ Some x → (slice_get xs i ≡ Some x) ⊎ ((j : ℕ) × (slice_get ys j ≡ Some x))
slice_get-parts [] ys i x e = inr (i, e)
slice_get-parts (y ∷ xs) ys zero x e = inl e
slice_get-parts (y ∷ xs) ys (suc i) x e = slice_get-parts xs ys i x e

literals_below : (n i v : ℕ) (positive : Bool) → slice_get (literals n) i ≡ Some (literal_node v positive) → v ≤ n
literals_below zero i v positive e = absurd (cc)
literals_below (suc n) i v positive e = grind (arith, slice_get-parts, literals_below n i v positive)

pub first_new : (n : ℕ) → IsNew (literals n) (literal_node (n + 1) true)
first_new n i e = let h = literals_below n i (n + 1) true e in omega arith

pub second_new : (n : ℕ) → IsNew (literals n ++ literal_node (n + 1) true ∷ []) (literal_node (n + 1) false)
second_new n i e = grind (arith, slice_get-parts, literals_below)

two-more : (xs : List Node) (a b : Node) → (xs ++ a ∷ []) ++ b ∷ [] ≡ xs ++ (a ∷ b ∷ [])
two-more [] a b = refl
two-more (x ∷ xs) a b = ap (λ ns. x ∷ ns) (two-more xs a b)

-- the literals of one more variable
pub literals_more : (n : ℕ) (xs ys zs : List Node) → xs ≡ literals n → ys ≡ xs ++ literal_node (n + 1) true ∷ [] → zs ≡ ys ++ literal_node (n + 1) false ∷ [] → zs ≡ literals (n + 1)
literals_more n xs ys zs e f g = grind (arith, two-more)

length-literals : (n : ℕ) → length (literals n) ≡ 2 * n
length-literals zero = refl
length-literals (suc n) = omega (arith, length-append (literals n) (literal_node (n + 1) true ∷ literal_node (n + 1) false ∷ []), length-literals n)

edges-literals : (n : ℕ) → edges (literals n) ≡ 0
edges-literals zero = refl
edges-literals (suc n) = grind (arith, sum_by-append, edges-literals n)

are_literals : (vars n : ℕ) → n ≤ vars → AreNodes vars (literals n)
are_literals vars zero h = record { fit = refl; apart = λ v. tt }
are_literals vars (suc n) h =
    let fits : (positive : Bool) (own : ℕ) → node_fits vars own (literal_node (n + 1) positive) ≡ true =
    λ positive own. grind (arith, le-leb) in
    let first = AreNodes-push vars (literals n) (literal_node (n + 1) true) (are_literals vars n (omega arith)) (fits true (length (literals n))) (λ v. refl) in
    let second = AreNodes-push vars (literals n ++ literal_node (n + 1) true ∷ []) (literal_node (n + 1) false) first (fits false (length (literals n ++ literal_node (n + 1) true ∷ []))) (λ v. refl) in
    subst (AreNodes vars) (two-more (literals n) (literal_node (n + 1) true) (literal_node (n + 1) false)) second

literals_step : (n v : ℕ) (positive : Bool) → 1 ≤ v → v ≤ n + 1 → (v ≤ n → slice_get (literals n) (literal_place v positive) ≡ Some (literal_node v positive))
    → slice_get (literals (suc n)) (literal_place v positive) ≡ Some (literal_node v positive)
literals_step n v positive some h before = grind (arith, slice_get-before, slice_get-behind, length-literals)

literals_at : (n v : ℕ) (positive : Bool) → 1 ≤ v → v ≤ n → slice_get (literals n) (literal_place v positive) ≡ Some (literal_node v positive)
literals_at zero v positive some h = absurd (omega arith)
literals_at (suc n) v positive some h = literals_step n v positive some (omega arith) (literals_at n v positive some)

pub literals_store : (vars : ℕ) (nodes : List Node) → nodes ≡ literals vars → vars < VARIABLE_LIMIT → EachOnce nodes → IsStore (record { nodes = nodes; vars = vars; made = 0; handed = 0 })
literals_store vars nodes e few once =
    let are : AreNodes vars nodes = rw e (are_literals vars vars (omega arith)) in
    grind (arith, literals_at, length-literals, edges-literals)

place_of : (var : ℕ) (positive : Bool) (r : ℕ) → r ≡ bool_byte (not positive) → 2 * (var - 1) + r ≡ literal_place var positive
place_of var positive r e = grind arith

-- what is at the place of a literal
module _ (store : Stored) (var : ℕ) (positive : Bool) (r : ℕ) (is : IsStore store) (some : 1 ≤ var) (within : var ≤ store.vars) (e : r ≡ bool_byte (not positive)) where
  pub literal_there : slice_get store.nodes (2 * (var - 1) + r) ≡ Some (literal_node var positive)
  literal_there = ap (slice_get store.nodes) (place_of var positive r e) ∙ is.literals var positive some within

  pub literal_truth : (a : Assignment) → is_true store.nodes (2 * (var - 1) + r) a ≡ same_bit positive (a var)
  literal_truth a = value_of-get (truth_by a) store.nodes (2 * (var - 1) + r) (literal_node var positive) literal_there (grind (arith, fits-get, literal_there))

  pub literal_mentions : (v : ℕ) → mentions store.nodes v (2 * (var - 1) + r) ≡ (var == v)
  literal_mentions v = value_of-get (mention_by v) store.nodes (2 * (var - 1) + r) (literal_node var positive) literal_there (grind (arith, fits-get, literal_there))
