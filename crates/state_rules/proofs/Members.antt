-- What is in a list, and the least number of a list.
use Rattle.std.proofs.Common.{◌≡◌, ℕ, zero, suc, ◌<◌, ◌≤◌, Bool, true, false, cond, ◌||◌, List, [], ◌∷◌, ◌++◌, map, length, get_or, Option, Some, None, refl, ap, sym, ◌∙◌, subst, arith, inl, inr, ⊎_elim}
use Rattle.std.specs.Prelude.{◌⊎◌}
use Rattle.std.specs.List.{list_any, filter}
use Rattle.std.proofs.lemmas.Bool.{or_right}
use Rattle.state_rules.specs.Bits.{lists_of_bits}
use Rattle.state_rules.specs.Ranking.{least_of, least_with}

abbrev pub In : {A : Type 0} → A → List A → Type 0
In x [] = ⊥
In x (y ∷ ys) = (x ≡ y) ⊎ In x ys

pub In-at : {A : Type 0} (xs : List A) (i : ℕ) (d : A) → i < length xs → In (get_or xs i d) xs
In-at [] i d h = absurd (omega arith)
In-at (x ∷ xs) zero d h = inl refl
In-at (x ∷ xs) (suc i) d h = inr (In-at xs i d (omega arith))

pub In-append_left : {A : Type 0} (x : A) (xs ys : List A) → In x xs → In x (xs ++ ys)
In-append_left x [] ys h = absurd h
In-append_left x (z ∷ xs) ys (inl e) = inl e
In-append_left x (z ∷ xs) ys (inr h) = inr (In-append_left x xs ys h)

pub In-append_right : {A : Type 0} (x : A) (xs ys : List A) → In x ys → In x (xs ++ ys)
In-append_right x [] ys h = h
In-append_right x (z ∷ xs) ys h = inr (In-append_right x xs ys h)

pub In-append : {A : Type 0} (x : A) (xs ys : List A) → In x (xs ++ ys) → In x xs ⊎ In x ys
In-append x [] ys h = inr h
In-append x (z ∷ xs) ys (inl e) = inl (inl e)
In-append x (z ∷ xs) ys (inr h) = ⊎_elim (λ p. inl (inr p)) (λ p. inr p) (In-append x xs ys h)

pub In-map : {A B : Type 0} (f : A → B) (x : A) (xs : List A) → In x xs → In (f x) (map f xs)
In-map f x [] h = absurd h
In-map f x (z ∷ xs) (inl e) = inl (ap f e)
In-map f x (z ∷ xs) (inr h) = inr (In-map f x xs h)

pub record From {A B : Type 0} (f : A → B) (y : B) (xs : List A) : Type 0 where
  pub item : A
  pub is_in : In item xs
  pub gives : y ≡ f item

pub from_map : {A B : Type 0} (f : A → B) (y : B) (xs : List A) → In y (map f xs) → From f y xs
from_map f y [] h = absurd h
from_map f y (x ∷ xs) (inl e) = record { item = x; is_in = inl refl; gives = e }
from_map f y (x ∷ xs) (inr h) = let r = from_map f y xs h in record { item = r.item; is_in = inr r.is_in; gives = r.gives }

-- all lists of `n` bits are in `lists_of_bits n`, and no other list is
pub bits_in : (bits : List Bool) → In bits (lists_of_bits (length bits))
bits_in [] = inl refl
bits_in (false ∷ bits) = In-append_left _ _ _ (In-map (λ bs. false ∷ bs) bits _ (bits_in bits))
bits_in (true ∷ bits) = In-append_right _ (map (λ bs. false ∷ bs) (lists_of_bits (length bits))) _ (In-map (λ bs. true ∷ bs) bits _ (bits_in bits))

pub bits_length : (n : ℕ) (bits : List Bool) → In bits (lists_of_bits n) → length bits ≡ n
bits_length zero bits h = grind arith
bits_length (suc n) bits h = ⊎_elim
    (λ p. let r = from_map (λ bs. false ∷ bs) bits _ p in ap length r.gives ∙ ap suc (bits_length n r.item r.is_in))
    (λ p. let r = from_map (λ bs. true ∷ bs) bits _ p in ap length r.gives ∙ ap suc (bits_length n r.item r.is_in))
    (In-append bits _ _ h)

pub record Passing {A : Type 0} (p : A → Bool) (xs : List A) : Type 0 where
  pub item : A
  pub is_in : In item xs
  pub passes : p item ≡ true

pub any_from : {A : Type 0} (p : A → Bool) (xs : List A) → list_any p xs ≡ true → Passing p xs
any_from p [] e = absurd (cc)
any_from {A} p (x ∷ xs) e = grind (arith, any_from p xs)

pub any_in : {A : Type 0} (p : A → Bool) (x : A) (xs : List A) → In x xs → p x ≡ true → list_any p xs ≡ true
any_in p x [] h e = absurd h
any_in p x (y ∷ ys) (inl q) e = rw (subst (λ z. p z ≡ true) q e) refl
any_in p x (y ∷ ys) (inr h) e = or_right _ _ (any_in p x ys h e)

pub In-filter : {A : Type 0} (p : A → Bool) (x : A) (xs : List A) → In x (filter p xs) → In x xs × (p x ≡ true)
In-filter p x [] m = absurd m
In-filter {A} p x (y ∷ ys) m = grind (arith, In-filter p x ys)

pub In-filtered : {A : Type 0} (p : A → Bool) (x : A) (xs : List A) → In x xs → p x ≡ true → In x (filter p xs)
In-filtered p x [] m e = absurd m
In-filtered p x (y ∷ ys) (inl q) e = rw (subst (λ z. p z ≡ true) q e) (inl q)
In-filtered {A} p x (y ∷ ys) (inr r) e = grind (arith, In-filtered p x ys r e)

pub empty-none : {A : Type 0} (xs : List A) → ((x : A) → In x xs → ⊥) → xs ≡ []
empty-none [] h = refl
empty-none (x ∷ xs) h = absurd (h x (inl refl))

-- tests that agree on a list filter it alike
pub filter_same : {A : Type 0} (p q : A → Bool) (xs : List A) → ((x : A) → In x xs → p x ≡ q x) → filter p xs ≡ filter q xs
filter_same p q [] h = refl
filter_same p q (x ∷ xs) h = λ i. cond (h x (inl refl) i) (x ∷ filter_same p q xs (λ y m. h y (inr m)) i) (filter_same p q xs (λ y m. h y (inr m)) i)

pub any_same : {A : Type 0} (p q : A → Bool) (xs : List A) → ((x : A) → In x xs → p x ≡ q x) → list_any p xs ≡ list_any q xs
any_same p q [] h = refl
any_same p q (x ∷ xs) h = λ i. h x (inl refl) i || any_same p q xs (λ y m. h y (inr m)) i

-- whether there is a cost, at most `n`
abbrev pub AtMost : Option ℕ → ℕ → Type 0
AtMost None n = ⊥
AtMost (Some c) n = c ≤ n

pub AtMost-le : (o : Option ℕ) (n m : ℕ) → AtMost o n → n ≤ m → AtMost o m
AtMost-le o n m h e = grind arith

AtMost-least_with : (n : ℕ) (o : Option ℕ) → AtMost (least_with n o) n
AtMost-least_with n o = grind arith

module _ {A : Type 0} (size : A → ℕ) (p : A → Bool) where
  abbrev pub least_size : List A → Option ℕ
  least_size xs = least_of (map size (filter p xs))

  pub least-below : (x : A) (xs : List A) → In x xs → p x ≡ true → AtMost (least_size xs) (size x)
  least-below x [] h e = absurd h
  least-below x (y ∷ ys) (inl q) e = rw (subst (λ z. p z ≡ true) q e) (subst (λ z. AtMost (least_with (size y) (least_size ys)) (size z)) (sym q) (AtMost-least_with (size y) (least_size ys)))
  least-below x (y ∷ ys) (inr h) e = grind (arith, least-below x ys h e)

  pub record OfSize (n : ℕ) (xs : List A) : Type 0 where
    pub item : A
    pub is_in : In item xs
    pub passes : p item ≡ true
    pub is_size : size item ≡ n

  pub least-from : (n : ℕ) (xs : List A) → least_size xs ≡ Some n → OfSize n xs
  least-from n [] e = absurd (cc)
  least-from n (y ∷ ys) e = grind (arith, least-from n ys)
