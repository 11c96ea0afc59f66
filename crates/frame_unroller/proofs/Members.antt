-- Members of lists that are made of others.
use Rattle.std.proofs.Common.{◌≡◌, ℕ, zero, suc, ◌+◌, ◌*◌, ◌<◌, ◌≤◌, inl, inr, Bool, true, List, [], ◌∷◌, length, take, drop, get_or, refl, sym, ap, ◌∙◌, arith}
use Rattle.std.specs.Prelude.{◌&&◌}
use Rattle.std.specs.List.{list_all, flat_map, enumerate_from, range_with_len}
use Rattle.std.proofs.lemmas.Bool.{and_parts}
use Rattle.std.proofs.lemmas.List.{length-append, take-append-drop, get_or_append_left, get_or-append-add}
use Rattle.std.proofs.lemmas.List.Folds.{list_all-append}
use Rattle.state_rules.proofs.Members.{In, In-append}

-- ---- members

pub among-flat_map : {A B : Type 0} (f : A → List B) (xs : List A) (y : B) → In y (flat_map f xs) → (x : A) × In x xs × In y (f x)
among-flat_map f [] y m = absurd m
among-flat_map f (x ∷ xs) y m = elim (In-append y (f x) (flat_map f xs) m) [
  | inl a ↦ (x, inl refl, a)
  | inr a ↦ let r = among-flat_map f xs y a in (r.0, inr r.1, r.2)
]

pub among-range : (a n t : ℕ) → In t (range_with_len a n) → (a ≤ t) × (t < a + n)
among-range a zero t m = absurd m
among-range a (suc n) t m = grind (arith, among-range (a + 1) n t)

pub among-enumerate : {A : Type 0} (a : ℕ) (xs : List A) (e : ℕ × A) → In e (enumerate_from a xs) → (a ≤ e.0) × (e.0 < a + length xs) × In e.1 xs
among-enumerate a [] e m = absurd m
among-enumerate a (x ∷ xs) e m = grind (arith, among-enumerate (a + 1) xs e)

-- ---- tests

pub list_all-flat_map : {A B : Type 0} (p : B → Bool) (q : A → Bool) (f : A → List B) (xs : List A) → ((x : A) → In x xs → list_all p (f x) ≡ q x) → list_all p (flat_map f xs) ≡ list_all q xs
list_all-flat_map p q f [] h = refl
list_all-flat_map p q f (x ∷ xs) h = list_all-append p (f x) (flat_map f xs) ∙ (λ i. h x (inl refl) i && list_all-flat_map p q f xs (λ y m. h y (inr m)) i)

-- if all items pass, those before a place and from it on do
pub both_pass : {A : Type 0} (p : A → Bool) (n : ℕ) (xs : List A) → list_all p xs ≡ true → (list_all p (take n xs) ≡ true) × (list_all p (drop n xs) ≡ true)
both_pass p n xs h = and_parts (list_all p (take n xs)) (list_all p (drop n xs)) (sym (list_all-append p (take n xs) (drop n xs)) ∙ ap (list_all p) (take-append-drop n xs) ∙ h)

-- ---- joined lists of one length

module _ {A : Type 0} (f : ℕ → List A) (w : ℕ) (each : (t : ℕ) → length (f t) ≡ w) where
  pub length-chunks : (a n : ℕ) → length (flat_map f (range_with_len a n)) ≡ n * w
  length-chunks a zero = omega arith
  length-chunks a (suc n) = omega (arith, length-append (f a) (flat_map f (range_with_len (a + 1) n)), each a, length-chunks (a + 1) n)

  pub get_or-chunks : (a n k i : ℕ) (d : A) → k < n → i < w → get_or (flat_map f (range_with_len a n)) (k * w + i) d ≡ get_or (f (a + k)) i d
  get_or-chunks a zero k i d lt l = absurd (omega arith)
  get_or-chunks a (suc n) zero i d lt l = grind (arith, get_or_append_left)
  get_or-chunks a (suc n) (suc k) i d lt l = grind (arith, get_or-append-add, get_or-chunks (a + 1) n k i d)
