-- Lists without repetitions.
use Rattle.std.proofs.Common.{◌≡◌, ℕ, zero, suc, inl, inr, Bool, true, false, not, ◌&&◌, ◌||◌, List, [], ◌∷◌, ◌++◌, map, refl, ap, sym, ◌∙◌, subst, arith}
use Rattle.std.specs.List.{list_any, list_all, filter, flat_map, AllByRecursion}
use Rattle.std.proofs.Math.Bool.{and_comm, and_self}
use Rattle.std.proofs.lemmas.Bool.{both_ways, and_parts, and_from, not-true, false_from_ne_true}
use Rattle.std.proofs.lemmas.Bool.Decides.{same_from_decides}
use Rattle.std.proofs.lemmas.List.Concat.{flat_map-append}
use Rattle.std.proofs.lemmas.List.Folds.{flat_map-map}
use Rattle.std.proofs.lemmas.List.Elements.{filter-append, filter_agree}
use Rattle.state_rules.specs.Bits.{lists_of_bits}
use Rattle.state_rules.proofs.Bits.{pointwise-refl, pointwise-equal}
use Rattle.state_rules.proofs.Lists.{filter-filter, map-flat_map, filter-all}
use Rattle.state_rules.proofs.Members.{In, In-filter, In-filtered, any_from, any_in, empty-none}
use Rattle.elimination_forests.specs.Branches.{first_met, same_list, different}

-- ---- what holds of each item

pub all-in : {X : Type 0} (p : X → Bool) (xs : List X) → ((x : X) → In x xs → p x ≡ true) → list_all p xs ≡ true
all-in p [] h = refl
all-in p (x ∷ xs) h = and_from (p x) (list_all p xs) (h x (inl refl)) (all-in p xs (λ y m. h y (inr m)))

pub all-at : {X : Type 0} (p : X → Bool) (x : X) (xs : List X) → list_all p xs ≡ true → In x xs → p x ≡ true
all-at p x [] e m = absurd m
all-at p x (y ∷ xs) e (inl s) = ap p s ∙ (and_parts (p y) (list_all p xs) e).0
all-at p x (y ∷ xs) e (inr m) = all-at p x xs (and_parts (p y) (list_all p xs) e).1 m

pub none-in : {X : Type 0} (p : X → Bool) (x : X) (xs : List X) → list_any p xs ≡ false → In x xs → p x ≡ false
none-in p x xs e m = false_from_ne_true (p x) (λ t. both_ways (list_any p xs) e (any_in p x xs m t))

pub any-none : {X : Type 0} (p : X → Bool) (xs : List X) → ((x : X) → In x xs → p x ≡ false) → list_any p xs ≡ false
any-none p xs h = false_from_ne_true (list_any p xs) (λ f. let found = any_from p xs f in both_ways (p found.item) (h found.item found.is_in) found.passes)

pub each-at : {X : Type 0} (P : X → Type 0) (x : X) (xs : List X) → AllByRecursion P xs → In x xs → P x
each-at P x [] all m = absurd m
each-at P x (y ∷ xs) all (inl s) = subst P (sym s) all.0
each-at P x (y ∷ xs) all (inr m) = each-at P x xs all.1 m

pub flat_map_same : {X Y : Type 0} (f g : X → List Y) (xs : List X) → ((x : X) → In x xs → f x ≡ g x) → flat_map f xs ≡ flat_map g xs
flat_map_same f g [] same = refl
flat_map_same f g (x ∷ xs) same = λ i. same x (inl refl) i ++ flat_map_same f g xs (λ y m. same y (inr m)) i

pub map_same : {X Y : Type 0} (f g : X → Y) (xs : List X) → ((x : X) → In x xs → f x ≡ g x) → map f xs ≡ map g xs
map_same f g [] same = refl
map_same f g (x ∷ xs) same = λ i. same x (inl refl) i ∷ map_same f g xs (λ y m. same y (inr m)) i

-- ---- filters

not_either : (x y : Bool) → (not y && not x) ≡ not (x || y)
not_either x y = grind arith

filter-swap : {X : Type 0} (p q : X → Bool) (xs : List X) → filter p (filter q xs) ≡ filter q (filter p xs)
filter-swap p q xs = filter-filter p q xs ∙ filter_agree (λ x. q x && p x) (λ x. p x && q x) (λ x. and_comm (q x) (p x)) xs ∙ sym (filter-filter q p xs)

filter-twice : {X : Type 0} (p : X → Bool) (xs : List X) → filter p (filter p xs) ≡ filter p xs
filter-twice p xs = filter-filter p p xs ∙ filter_agree (λ x. p x && p x) p (λ x. and_self (p x)) xs

pub filter-flat_map : {X Y : Type 0} (p : Y → Bool) (f : X → List Y) (xs : List X) → filter p (flat_map f xs) ≡ flat_map (λ x. filter p (f x)) xs
filter-flat_map p f [] = refl
filter-flat_map p f (x ∷ xs) = filter-append p (f x) (flat_map f xs) ∙ ap (λ ys. filter p (f x) ++ ys) (filter-flat_map p f xs)

-- A filter changes nothing if what it drops gives nothing.
pub flat_map-filter : {X Y : Type 0} (p : X → Bool) (f : X → List Y) → ((x : X) → p x ≡ false → f x ≡ []) → (xs : List X) → flat_map f (filter p xs) ≡ flat_map f xs
flat_map-filter p f none [] = refl
flat_map-filter p f none (x ∷ xs) = grind (arith, none x, flat_map-filter p f none xs)

pub each-map : {X Y : Type 0} (P : X → Type 0) (Q : Y → Type 0) (f : X → Y) → ((x : X) → P x → Q (f x)) → (xs : List X) → AllByRecursion P xs → AllByRecursion Q (map f xs)
each-map P Q f h [] all = tt
each-map P Q f h (x ∷ xs) all = (h x all.0, each-map P Q f h xs all.1)

pub each-filter : {X : Type 0} (P Q : X → Type 0) (p : X → Bool) → ((x : X) → P x → p x ≡ true → Q x) → (xs : List X) → AllByRecursion P xs → AllByRecursion Q (filter p xs)
each-filter P Q p h [] all = tt
each-filter P Q p h (x ∷ xs) all = grind (arith, h x all.0, each-filter P Q p h xs all.1)

-- ---- items, each kept once

module _ {X : Type 0} (same : X → X → Bool) (exact : (x y : X) → same x y ≡ true → x ≡ y) where
  pub In-met : (x : X) (xs : List X) → In x xs → In x (first_met same xs)
  In-met x [] m = absurd m
  In-met x (y ∷ xs) (inl e) = inl e
  In-met x (y ∷ xs) (inr m) = grind (arith, exact y x, In-filtered (λ z. not (same y z)) x (first_met same xs), In-met x xs m)

  pub met-In : (x : X) (xs : List X) → In x (first_met same xs) → In x xs
  met-In x [] m = m
  met-In x (y ∷ xs) given = grind (arith, In-filter, met-In x xs)

  pub any-met : (q : X → Bool) (xs : List X) → list_any q (first_met same xs) ≡ list_any q xs
  any-met q xs = same_from_decides (list_any q (first_met same xs)) (list_any q xs) (passed (first_met same xs) xs (λ x. met-In x xs), passed xs (first_met same xs) (λ x. In-met x xs)) ((λ e. e), (λ e. e)) where
    passed : (xs ys : List X) → ((x : X) → In x xs → In x ys) → list_any q xs ≡ true → list_any q ys ≡ true
    passed xs ys h e = let found = any_from q xs e in any_in q found.item ys (h found.item found.is_in) found.passes

-- ---- different lists

abbrev pub is_among : List (List Bool) → List Bool → Bool
is_among lists list = list_any (λ other. same_list other list) lists

abbrev apart : List (List Bool) → List (List Bool) → List (List Bool)
apart others lists = filter (λ list. not (is_among others list)) lists

pub different-append : (ks bs : List (List Bool)) → different (ks ++ bs) ≡ different ks ++ filter (λ list. not (is_among ks list)) (different bs)
different-append [] bs = sym (filter-all (different bs))
different-append (a ∷ ks) bs = grind (arith, different-append ks bs, filter-append, filter-filter, filter_agree, not_either)

none-apart : (ks : List (List Bool)) → apart ks (different ks) ≡ []
none-apart ks = empty-none (apart ks (different ks)) (λ list m.
    let found = In-filter (λ l. not (is_among ks l)) list (different ks) m in
    both_ways (is_among ks list) (not-true (is_among ks list) found.1) (any_in (λ l. same_list l list) list ks (met-In same_list pointwise-equal list ks found.0) (pointwise-refl list)))

-- the different lists of `xs` and then of `zs`, without `ks`
seen_first : (ks xs zs : List (List Bool)) → apart ks (different (xs ++ zs)) ≡ apart ks (different xs) ++ apart xs (apart ks (different zs))
seen_first ks xs zs = grind (arith, different-append, filter-append, filter-swap)

seen_again : (ks zs : List (List Bool)) → apart ks (different (ks ++ zs)) ≡ apart ks (different zs)
seen_again ks zs = grind (arith, different-append, filter-append, none-apart, filter-twice)

-- If what a list gives is there already, the list itself may be left out.
absorbed : (f : List Bool → List (List Bool)) (x : List Bool) (ds : List (List Bool))
    → apart (f x) (different (flat_map f (filter (λ list. not (same_list x list)) ds))) ≡ apart (f x) (different (flat_map f ds))
absorbed f x [] = refl
absorbed f x (y ∷ ds) = grind (arith, absorbed f x ds, seen_first, seen_again, pointwise-equal)

-- The different lists give the same different lists as all lists.
pub different-flat_map : (f : List Bool → List (List Bool)) (xs : List (List Bool)) → different (flat_map f (different xs)) ≡ different (flat_map f xs)
different-flat_map f [] = refl
different-flat_map f (x ∷ xs) = grind (arith, different-append, absorbed f x, different-flat_map f xs)

pub each-different : (P : List Bool → Type 0) (lists : List (List Bool)) → AllByRecursion P lists → AllByRecursion P (different lists)
each-different P [] all = tt
each-different P (x ∷ lists) all = (all.0, each-filter P P (λ list. not (same_list x list)) (λ _ h _. h) (different lists) (each-different P lists all.1))

-- ---- lists of bits

-- a list of bits with one more at its end: 0, and 1
abbrev pub longer : List Bool → List (List Bool)
longer bits = (bits ++ false ∷ []) ∷ (bits ++ true ∷ []) ∷ []

longer-cons : (b : Bool) (lists : List (List Bool)) → map (λ bits. b ∷ bits) (flat_map longer lists) ≡ flat_map longer (map (λ bits. b ∷ bits) lists)
longer-cons b lists = map-flat_map (λ bits. b ∷ bits) longer lists ∙ sym (flat_map-map longer (λ bits. b ∷ bits) lists)

pub lists_of_bits-more : (n : ℕ) → lists_of_bits (suc n) ≡ flat_map longer (lists_of_bits n)
lists_of_bits-more zero = refl
lists_of_bits-more (suc n) =
    (λ i. map (λ bits. false ∷ bits) (lists_of_bits-more n i) ++ map (λ bits. true ∷ bits) (lists_of_bits-more n i))
    ∙ (λ i. longer-cons false (lists_of_bits n) i ++ longer-cons true (lists_of_bits n) i)
    ∙ sym (flat_map-append longer (map (λ bits. false ∷ bits) (lists_of_bits n)) (map (λ bits. true ∷ bits) (lists_of_bits n)))
