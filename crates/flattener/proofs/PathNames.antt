-- Paths: names in an instance, and lists of different names.
use Rattle.std.proofs.Common.{◌≡◌, ℕ, ◌+◌, ◌≤◌, inl, inr, true, false, List, [], ◌∷◌, ◌++◌, map, length, refl, ap, subst, ◌∙◌, arith}
use Rattle.std.specs.Prelude.{◌==◌, max, nat_eq, if◌then◌else◌}
use Rattle.std.specs.List.{list_all, list_any, flat_map}
use Rattle.std.proofs.lemmas.Bool.{and_parts}
use Rattle.std.proofs.lemmas.List.{append_assoc, append_cancel_left}
use Rattle.std.proofs.lemmas.List.Folds.{list_any-append}
use Rattle.text_rules.specs.Names.{Name}
use Rattle.state_rules.proofs.Members.{In, In-append}
use Rattle.device_model.proofs.Repeats.{is_among-among}
use Rattle.device_model.proofs.Apart.{Different, Different-append, Different-made}
use Rattle.component_lang.specs.Designs.{is_plain_name, are_distinct}
use Rattle.flattener.specs.Flat.{below}
use Rattle.flattener.specs.inner.Counting.{longest_of}
use Rattle.flattener.specs.inner.Expanding.{prefix_of, behind}

-- ---- names of blocks

-- what a plain name has
pub record Plain (name : Name) : Type 0 where
  pub some : 1 ≤ length name
  pub few : length name ≤ 64
  pub dotless : list_any (λ b. b == 46) name ≡ false

pub Plain-from_test : (name : Name) → is_plain_name name ≡ true → Plain name
Plain-from_test name h = grind arith

-- ---- names below a path

pub below-some : (path name : Name) → 1 ≤ length path → below path name ≡ path ++ 46 ∷ name
below-some path name h = grind arith

pub behind-prefix : (path name : Name) → behind (prefix_of path) name ≡ below path name
behind-prefix path name = grind (arith, append_assoc)

pub map-behind : (path : Name) (names : List Name) → map (behind (prefix_of path)) names ≡ map (below path) names
map-behind path [] = refl
map-behind path (n ∷ names) = λ i. behind-prefix path n i ∷ map-behind path names i

-- `below` is associative
pub below-below : (path name more : Name) → 1 ≤ length name → below (below path name) more ≡ below path (below name more)
below-below path name more h = grind (arith, append_assoc)

pub length-below : (path name : Name) → 1 ≤ length path → length (below path name) ≡ length path + 1 + length name
length-below path name h = ap length (below-some path name h) ∙ over path
  where
    over : (p : Name) → length (p ++ 46 ∷ name) ≡ length p + 1 + length name
    over [] = omega arith
    over (b ∷ p) = let rest = over p in omega arith

pub below-same : (path m n : Name) → below path m ≡ below path n → m ≡ n
below-same path m n h = grind (arith, append_cancel_left)

-- a name below another has a dot
pub dot-below : (path name : Name) → 1 ≤ length path → list_any (λ b. b == 46) (below path name) ≡ true
dot-below path name h = grind (arith, list_any-append)

-- the bytes before the first dot
abbrev pub head_of : Name → Name
head_of [] = []
head_of (b ∷ name) = if b == 46 then [] else b ∷ head_of name

pub head_of-dotless : (name : Name) → list_any (λ b. b == 46) name ≡ false → head_of name ≡ name
head_of-dotless [] h = refl
head_of-dotless (b ∷ name) h = grind (arith, head_of-dotless name)

head_of-dotted : (path name : Name) → list_any (λ b. b == 46) path ≡ false → head_of (path ++ 46 ∷ name) ≡ path
head_of-dotted [] name h = refl
head_of-dotted (b ∷ path) name h = grind (arith, head_of-dotted path name)

pub head_of-below : (path name : Name) → Plain path → head_of (below path name) ≡ path
head_of-below path name p = ap head_of (below-some path name p.some) ∙ head_of-dotted path name p.dotless

-- ---- names that differ

pub Different-from_test : (ns : List Name) → are_distinct ns ≡ true → Different ns
Different-from_test [] h = tt
Different-from_test (n ∷ ns) h = grind (arith, is_among-among, Different-from_test ns)

pub Different-below : (path : Name) (ns : List Name) → Different ns → Different (map (below path) ns)
Different-below path ns h = Different-made (below path) (below-same path) ns h

-- names whose heads identify the list that they are in
module _ {A : Type 0} (name : A → Name) (g : A → List Name) where
  abbrev pub Headed : A → Type 0
  Headed u = (n : Name) → In n (g u) → head_of n ≡ name u

  pub among_headed : (us : List A) → ((u : A) → In u us → Headed u) → (n : Name) → In n (flat_map g us) → In (head_of n) (map name us)
  among_headed [] h n m = absurd m
  among_headed (u ∷ us) h n m = elim (In-append n (g u) (flat_map g us) m) [
    | inl a ↦ inl (h u (inl refl) n a)
    | inr a ↦ inr (among_headed us (λ v b. h v (inr b)) n a)
  ]

  pub Different-headed : (us : List A) → ((u : A) → In u us → Headed u) → ((u : A) → In u us → Different (g u)) → Different (map name us) → Different (flat_map g us)
  Different-headed [] h d e = tt
  Different-headed (u ∷ us) h d e =
      Different-append (g u) (flat_map g us) (d u (inl refl)) (Different-headed us (λ v b. h v (inr b)) (λ v b. d v (inr b)) e.1)
      (λ n a b. e.0 (subst (λ (k : Name). In k (map name us)) (h u (inl refl) n a) (among_headed us (λ v c. h v (inr c)) n b)))

-- ---- the longest of some names

pub longest-append : (xs ys : List Name) → longest_of (xs ++ ys) ≡ max (longest_of xs) (longest_of ys)
longest-append [] ys = omega arith
longest-append (x ∷ xs) ys = let rest = longest-append xs ys in omega arith

-- the longest path below a name of `name` bytes
abbrev pub lift : ℕ → ℕ → ℕ
lift name longest = if nat_eq longest 0 then 0 else name + 1 + longest

abbrev pub AllSome : List Name → Type 0
AllSome [] = Unit {0}
AllSome (n ∷ ns) = (1 ≤ length n) × AllSome ns

pub AllSome-append : (xs ys : List Name) → AllSome xs → AllSome ys → AllSome (xs ++ ys)
AllSome-append [] ys h g = g
AllSome-append (x ∷ xs) ys h g = (h.0, AllSome-append xs ys h.1 g)

pub AllSome-below : (path : Name) (ns : List Name) → 1 ≤ length path → AllSome (map (below path) ns)
AllSome-below path [] h = tt
AllSome-below path (n ∷ ns) h = (let e = length-below path n h in omega arith, AllSome-below path ns h)

pub longest-below : (path : Name) (ns : List Name) → 1 ≤ length path → AllSome ns → longest_of (map (below path) ns) ≡ lift (length path) (longest_of ns)
longest-below path [] h g = refl
longest-below path (n ∷ ns) h g = grind (arith, length-below, longest-below path ns h g.1)

pub AllSome-right : (xs ys : List Name) → AllSome (xs ++ ys) → AllSome ys
AllSome-right [] ys h = h
AllSome-right (x ∷ xs) ys h = AllSome-right xs ys h.1

pub AllSome-left : (xs ys : List Name) → AllSome (xs ++ ys) → AllSome xs
AllSome-left [] ys h = tt
AllSome-left (x ∷ xs) ys h = (h.0, AllSome-left xs ys h.1)

pub AllSome-plain : (ns : List Name) → list_all is_plain_name ns ≡ true → AllSome ns
AllSome-plain [] h = tt
AllSome-plain (n ∷ ns) h = let two = and_parts (is_plain_name n) (list_all is_plain_name ns) h in ((Plain-from_test n two.0).some, AllSome-plain ns two.1)
