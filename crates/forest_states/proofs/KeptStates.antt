-- States of one length, as they are kept.
use Rattle.std.proofs.Common.{◌≡◌, ℕ, zero, suc, ◌+◌, ◌/◌, ◌<◌, Bool, true, false, List, [], ◌∷◌, ◌++◌, map, length, take, drop, get_or, refl, ap, sym, ◌∙◌, subst, arith}
use Rattle.std.specs.Prelude.{◌==◌, nat_eq, if◌then◌else◌}
use Rattle.std.specs.List.{list_any, list_all, position_or_len, AllByRecursion}
use Rattle.std.specs.Str.{bytes_eq}
use Rattle.std.proofs.Math.Bool.{and-true}
use Rattle.std.proofs.lemmas.Bool.Decides.{nat_tests}
use Rattle.std.proofs.lemmas.List.{map-append}
use Rattle.smallvec.specs.SmallVec.{SmallVec}
use Rattle.indexmap.specs.IndexSet.{insert_key}
use Rattle.elimination_forests.specs.Branches.{words_of}
use Rattle.forest_states.specs.inner.BitLists.{bits_in, AreBits, is_same}
use Rattle.forest_states.proofs.Words.{bits-words, length-bits, same-words}

abbrev pub single : ℕ → List ℕ
single w = w ∷ []

abbrev pub items : SmallVec ℕ → List ℕ
items l = l.items

pub one-word : (v w : ℕ) → nat_eq v w ≡ bytes_eq (single v) (single w)
one-word v w = sym (and-true (nat_eq v w))

-- ---- a state added to those of a set

module _ {X : Type 0} (f : X → List ℕ) (eq : X → X → Bool) (same : (x y : X) → eq x y ≡ bytes_eq (f x) (f y))
    (size : ℕ) (x : X) (state : List Bool) (long : length state ≡ size) (is : f x ≡ words_of (length state / 64 + 1) state) where
  bits-are : bits_in size (f x) ≡ state
  bits-are = ap (bits_in size) is ∙ bits-words size (length state / 64 + 1) state long (omega (arith, long))

  here : AreBits size (f x)
  here = is ∙ (λ j. words_of (long j / 64 + 1) (sym bits-are j))

  same-state : (ws : List ℕ) → AreBits size ws → bytes_eq (f x) ws ≡ is_same state (bits_in size ws)
  same-state ws are = same-words size (f x) ws here are ∙ ap (λ s. is_same s (bits_in size ws)) bits-are

  any-state : (ys : List X) → AllByRecursion (AreBits size) (map f ys) → list_any (eq x) ys ≡ list_any (is_same state) (map (bits_in size) (map f ys))
  any-state [] are = refl
  any-state (y ∷ ys) are = grind (arith, same x y, same-state (f y) are.0, any-state ys are.1)

  pub state-place : (ys : List X) → AllByRecursion (AreBits size) (map f ys) → position_or_len (eq x) ys ≡ position_or_len (is_same state) (map (bits_in size) (map f ys))
  state-place [] are = refl
  state-place (y ∷ ys) are = grind (arith, same x y, same-state (f y) are.0, state-place ys are.1)

  pub state-added : (ys : List X) → AllByRecursion (AreBits size) (map f ys)
      → map (bits_in size) (map f (insert_key eq ys x)) ≡ insert_key is_same (map (bits_in size) (map f ys)) state
  state-added ys are = grind (arith, any-state ys are, map-append f, map-append (bits_in size), bits-are)

  all-more : (ys : List X) → AllByRecursion (AreBits size) (map f ys) → AllByRecursion (AreBits size) (map f (ys ++ x ∷ []))
  all-more [] are = (here, tt)
  all-more (y ∷ ys) are = (are.0, all-more ys are.1)

  pub are-kept : (ys zs : List X) → zs ≡ insert_key eq ys x → AllByRecursion (AreBits size) (map f ys) → AllByRecursion (AreBits size) (map f zs)
  are-kept ys zs e are = subst (λ xs. AllByRecursion (AreBits size) (map f xs)) (sym e) (by (list_any (eq x) ys)) where
    by : (b : Bool) → AllByRecursion (AreBits size) (map f (if b then ys else ys ++ x ∷ []))
    by true = are
    by false = all-more ys are

-- ---- all have one length

pub all-long : (size : ℕ) (ws : List (List ℕ)) → list_all (λ s. length s == size) (map (bits_in size) ws) ≡ true
all-long size [] = refl
all-long size (w ∷ ws) = grind (arith, nat_tests, length-bits size w, all-long size ws)

-- ---- one of them

pub word-at : (ws : List ℕ) (i : ℕ) → i < length ws → take 1 (drop i ws) ≡ get_or (map single ws) i []
word-at [] i low = absurd (omega arith)
word-at (w ∷ ws) zero low = refl
word-at (w ∷ ws) (suc i) low = word-at ws i (omega arith)
