-- Lists: tests of each item, items that differ, and names that are short.
use Rattle.std.proofs.Common.{◌≡◌, ℕ, ◌<◌, ◌≤◌, Bool, true, List, [], ◌∷◌, ◌++◌, map, length, get_or, refl, sym, ap, ◌∙◌, arith}
use Rattle.std.specs.Prelude.{nat_le}
use Rattle.std.specs.List.{list_all, flat_map}
use Rattle.std.proofs.lemmas.Bool.{leb-true, and_parts}
use Rattle.std.proofs.lemmas.List.{length-map, get_or-map}
use Rattle.std.proofs.lemmas.List.Folds.{list_all-append}
use Rattle.text_rules.specs.Names.{Name}
use Rattle.state_rules.proofs.Lists.{list_all-at}
use Rattle.device_model.specs.declared.limits.TheConstants.{NAME_LIMIT}
use Rattle.flattener.specs.inner.Expanding.{are_short}

pub all_parts : {A : Type 0} (p : A → Bool) (xs ys : List A) → list_all p (xs ++ ys) ≡ true → (list_all p xs ≡ true) × (list_all p ys ≡ true)
all_parts p xs ys h = and_parts (list_all p xs) (list_all p ys) (sym (list_all-append p xs ys) ∙ h)

-- two functions that agree on the items that pass a test
pub map_same : {A B : Type 0} (p : A → Bool) (f g : A → B) → ((x : A) → p x ≡ true → f x ≡ g x) → (xs : List A) → list_all p xs ≡ true → map f xs ≡ map g xs
map_same p f g h [] a = refl
map_same p f g h (x ∷ xs) a = let two = and_parts (p x) (list_all p xs) a in λ i. h x two.0 i ∷ map_same p f g h xs two.1 i

pub flat_map_same : {A B : Type 0} (p : A → Bool) (f g : A → List B) → ((x : A) → p x ≡ true → f x ≡ g x) → (xs : List A) → list_all p xs ≡ true → flat_map f xs ≡ flat_map g xs
flat_map_same p f g h [] a = refl
flat_map_same p f g h (x ∷ xs) a = let two = and_parts (p x) (list_all p xs) a in λ i. h x two.0 i ++ flat_map_same p f g h xs two.1 i

-- a name among short ones is short
pub short_at : (f : Name → Name) (names : List Name) (k : ℕ) (d n : Name) → k < length names → are_short (map f names) ≡ true → d ≡ get_or names k d → n ≡ d → length (f n) ≤ NAME_LIMIT
short_at f names k d n l h e g =
    let t = list_all-at (λ (name : Name). nat_le (length name) NAME_LIMIT) (map f names) k (f d) h (omega (arith, length-map names f)) in
    let there : get_or (map f names) k (f d) ≡ f n = get_or-map f names k d (f d) l ∙ ap f (sym e ∙ sym g) in
    leb-true (length (f n)) NAME_LIMIT (ap (λ (name : Name). nat_le (length name) NAME_LIMIT) (sym there) ∙ t)
