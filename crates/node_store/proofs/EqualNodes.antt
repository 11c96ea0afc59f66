-- Two nodes are equal if the kept ones are.
use Rattle.std.proofs.Common.{◌≡◌, ℕ, zero, suc, true, false, List, [], ◌∷◌, map, Some, ap, refl, sym, ◌∙◌, subst, arith}
use Rattle.std.specs.Prelude.{slice_get, nat_eq}
use Rattle.std.specs.List.{IsDistinct, AllByRecursion}
use Rattle.std.specs.Cmp.Lexicographic.{pointwise, same_text}
use Rattle.std.proofs.lemmas.Cmp.{nat_list_eq_equiv}
use Rattle.std.proofs.lemmas.Bool.Decides.{nat_tests}
use Rattle.smallvec.specs.SmallVec.{SmallVec}
use Rattle.state_rules.specs.declared.nodes.NodeKind.{NodeKind}
use Rattle.node_store.specs.declared.store.Kept.{Kept}
use Rattle.node_store.specs.inner.Keeping.{shown}
use Rattle.node_store.specs.Stores.{EachOnce}
use Rattle.node_store.specs.contracts.store.KeptPartialEq.TheImpl.{eq-value}

abbrev kept : NodeKind → SmallVec ℕ → Kept
kept what kids = record { what = what; kids = kids }

same_of : (w z : NodeKind) (k l : SmallVec ℕ) → eq-value.it (kept w k) (kept z l) ≡ true → shown (kept w k) ≡ shown (kept z l)
same_of w z k l e = grind (arith, nat_tests, same_text k.items l.items)

pub same_shown : (x y : Kept) → eq-value.it x y ≡ true → shown x ≡ shown y
same_shown x y e = same_of x.what y.what x.kids y.kids e

items_eq : (xs ys : List ℕ) → xs ≡ ys → pointwise nat_eq xs ys ≡ true
items_eq xs ys e = subst (λ zs. pointwise nat_eq xs zs ≡ true) e (nat_list_eq_equiv.refl xs)

eq_of : (w z : NodeKind) (k l : SmallVec ℕ) → shown (kept w k) ≡ shown (kept z l) → eq-value.it (kept w k) (kept z l) ≡ true
eq_of w z k l e = grind (arith, items_eq)

eq_shown : (x y : Kept) → shown x ≡ shown y → eq-value.it x y ≡ true
eq_shown x y e = eq_of x.what y.what x.kids y.kids e

-- no later node is shown as the first one is
first_apart : (x : Kept) (xs : List Kept) (i : ℕ) → AllByRecursion (λ y. eq-value.it x y ≡ false) xs → slice_get (map shown xs) i ≡ Some (shown x) → ⊥
first_apart x [] i all e = (cc)
first_apart x (y ∷ xs) zero all e = let s : shown y ≡ shown x = cc in let t = eq_shown x y (sym s) in let f = all.0 in (cc)
first_apart x (y ∷ xs) (suc i) all e = first_apart x xs i all.1 e

pub once_shown : (xs : List Kept) → IsDistinct eq-value.it xs → EachOnce (map shown xs)
unfolding IsDistinct
once_shown [] apart i j node e f = absurd (cc)
once_shown (x ∷ xs) apart zero zero node e f = refl
once_shown (x ∷ xs) apart zero (suc j) node e f = let s : shown x ≡ node = cc in absurd (first_apart x xs j apart.0 (f ∙ ap Some (sym s)))
once_shown (x ∷ xs) apart (suc i) zero node e f = let s : shown x ≡ node = cc in absurd (first_apart x xs i apart.0 (e ∙ ap Some (sym s)))
once_shown (x ∷ xs) apart (suc i) (suc j) node e f = ap suc (once_shown xs apart.1 i j node e f)

pub there_shown : (xs : List Kept) (i : ℕ) (x k : Kept) → slice_get xs i ≡ Some k → eq-value.it x k ≡ true → slice_get (map shown xs) i ≡ Some (shown x)
there_shown [] i x k e t = absurd (cc)
there_shown (y ∷ xs) zero x k e t = let s : y ≡ k = cc in ap Some (ap shown s ∙ sym (same_shown x k t))
there_shown (y ∷ xs) (suc i) x k e t = there_shown xs i x k e t
