-- How gathered bytes grow by one text and then another.
use Rattle.std.proofs.Common.{◌≡◌, ℕ, ◌+◌, ◌-◌, ◌<◌, ◌≤◌, List, [], ◌∷◌, ◌++◌, refl, map, arith, length, take, drop, get_or, Option, Result, Ok, Err, IsErr, sym, ap, ◌∙◌, subst, append_assoc, append-nil}
use Rattle.std.specs.List.{flat_map}
use Rattle.std.specs.Io.KnownBytes.{Appends}
use Rattle.std.proofs.lemmas.List.{take_more, flat_map_more, take-append-drop, take_all}
use Rattle.std.proofs.lemmas.List.Concat.{flat_map-append}
use Rattle.std.proofs.lemmas.List.Folds.{flat_map-map}
use Rattle.std.specs.Borrow.{Bor}
use Rattle.text_rules.specs.Tokens.{spaced}
use Rattle.diag_edge.specs.Edge.{AppendsPrefix, Puts}
use Rattle.diag_edge.proofs.GrownBytes.{grows_none, grows_more, begins_more, begins_first}
use Rattle.diag_edge.specs.Adding.{Grown, Adds}

pub grown_none : (a : Option (List ℕ)) (p : List ℕ) → Grown a a p p []
grown_none a p = record { put = []; grown = grows_none a; all = sym (append-nil p) }

-- a text was added without a put
pub grown_here : (a : Option (List ℕ)) (p q xs : List ℕ) → q ≡ p ++ xs → Grown a a p q xs
grown_here a p q xs e = record { put = []; grown = grows_none a; all = e }

pub grown_more : (a b c : Option (List ℕ)) (p q s xs ys : List ℕ) → Grown a b p q xs → Grown b c q s ys → Grown a c p s (xs ++ ys)
grown_more a b c p q s xs ys g h = record {
  put = g.put ++ h.put;
  grown = grows_more a b c g.put h.put g.grown h.grown;
  all = append_assoc g.put h.put s ∙ ap (λ t. g.put ++ t) h.all ∙ sym (append_assoc g.put q ys) ∙ ap (λ t. t ++ ys) g.all ∙ append_assoc p xs ys;
}

-- the first text was added, and a put failed with the second
pub part_more : (a b c : Option (List ℕ)) (p q xs ys : List ℕ) → Grown a b p q xs → AppendsPrefix b c (q ++ ys) → AppendsPrefix a c (p ++ (xs ++ ys))
part_more a b c p q xs ys g part =
    subst (λ t. AppendsPrefix a c t) (sym (append_assoc g.put q ys) ∙ ap (λ t. t ++ ys) g.all ∙ append_assoc p xs ys) (begins_more a b c g.put (q ++ ys) g.grown part)

part_first : (a b : Option (List ℕ)) (p xs ys : List ℕ) → AppendsPrefix a b (p ++ xs) → AppendsPrefix a b (p ++ (xs ++ ys))
part_first a b p xs ys (part, rest, is, grown) = (part, rest ++ ys, sym (append_assoc p xs ys) ∙ ap (λ t. t ++ ys) is ∙ append_assoc part rest ys, grown)

-- the first text failed, and no more was added
pub adds_first : {T E : Type 0} (a b : Option (List ℕ)) (p q : List ℕ) (r : Result T E) (xs ys : List ℕ) → IsErr r → AppendsPrefix a b (p ++ xs) → Adds a b p q r (xs ++ ys)
adds_first a b p q (Ok v) xs ys is h = absurd (let no : ⊥ = cc in no)
adds_first a b p q (Err e) xs ys is h = part_first a b p xs ys h

-- the first text was added, and the second was added or failed
pub adds_second : {T E : Type 0} (a b c : Option (List ℕ)) (p q s : List ℕ) (r : Result T E) (xs ys : List ℕ) → Grown a b p q xs → Adds b c q s r ys → Adds a c p s r (xs ++ ys)
adds_second a b c p q s (Ok v) xs ys g h = grown_more a b c p q s xs ys g h
adds_second a b c p q s (Err e) xs ys g h = part_more a b c p q xs ys g h

-- an equal text
pub adds_same : {T E : Type 0} (a b : Option (List ℕ)) (p q : List ℕ) (r : Result T E) (xs ys : List ℕ) → xs ≡ ys → Adds a b p q r xs → Adds a b p q r ys
adds_same a b p q r xs ys same h = subst (λ t. Adds a b p q r t) same h

-- a text was added, and another after it or none
pub ruleset adds_on = (adds_first, adds_second)

-- ---- the texts of the elements of a list, one after another

one-more : {X : Type 0} (f : X → List ℕ) (xs : List X) (i : ℕ) (d : X) → i < length xs → flat_map f (take i xs) ++ f (get_or xs i d) ≡ flat_map f (take (i + 1) xs)
one-more f xs i d lt = flat_map_more f [] (take i xs) (get_or xs i d) ∙ ap (flat_map f) (sym (take_more xs i d lt))

-- the texts before a place were added, and then the one there
pub each_more : {X : Type 0} (f : X → List ℕ) (xs : List X) (i : ℕ) (d : X) (a b c : Option (List ℕ)) (p q s text : List ℕ) → i < length xs → text ≡ f (get_or xs i d)
    → Grown a b p q (flat_map f (take i xs)) → Grown b c q s text → Grown a c p s (flat_map f (take (i + 1) xs))
each_more f xs i d a b c p q s text lt is g h =
    subst (λ t. Grown a c p s t) (ap (λ t. flat_map f (take i xs) ++ t) is ∙ one-more f xs i d lt) (grown_more a b c p q s (flat_map f (take i xs)) text g h)

-- a put failed with the text there
pub each_part : {X T E : Type 0} (f : X → List ℕ) (xs : List X) (i : ℕ) (d : X) (a b c : Option (List ℕ)) (p q s text : List ℕ) (r : Result T E) → IsErr r → i < length xs → text ≡ f (get_or xs i d)
    → Grown a b p q (flat_map f (take i xs)) → AppendsPrefix b c (q ++ text) → Adds a c p s r (flat_map f xs)
each_part f xs i d a b c p q s text r failed lt is g part =
    subst (λ t. Adds a c p s r t)
    (ap (λ t. (flat_map f (take i xs) ++ t) ++ flat_map f (drop (i + 1) xs)) is ∙ ap (λ t. t ++ flat_map f (drop (i + 1) xs)) (one-more f xs i d lt)
    ∙ sym (flat_map-append f (take (i + 1) xs) (drop (i + 1) xs)) ∙ ap (flat_map f) (take-append-drop (i + 1) xs))
    (adds_first a c p s r (flat_map f (take i xs) ++ text) (flat_map f (drop (i + 1) xs)) failed (part_more a b c p q (flat_map f (take i xs)) text g part))

-- all were added
pub each_all : {X : Type 0} (f : X → List ℕ) (xs : List X) (i : ℕ) (a b : Option (List ℕ)) (p q : List ℕ) → length xs ≤ i → Grown a b p q (flat_map f (take i xs)) → Grown a b p q (flat_map f xs)
each_all f xs i a b p q past g = subst (λ ys. Grown a b p q (flat_map f ys)) (take_all i xs past) g

pub ruleset adds_each = (each_more, each_part, each_all, grown_none)

-- ---- what is put in the end

-- all that was added is put, if nothing was there before
pub put_all : {T E : Type 0} (a b c : Option (List ℕ)) (p q xs text : List ℕ) (r : Result T E) → p ≡ [] → xs ≡ text → Grown a b p q xs → Puts b c r q → Puts a c r text
put_all a b c p q xs text (Ok v) none same g h = subst (λ t. Appends a c t) (g.all ∙ ap (λ t. t ++ xs) none ∙ same) (grows_more a b c g.put q g.grown h)
put_all a b c p q xs text (Err e) none same g h = subst (λ t. AppendsPrefix a c t) (g.all ∙ ap (λ t. t ++ xs) none ∙ same) (begins_more a b c g.put q g.grown h)

-- a put failed before
pub put_part : {T E : Type 0} (a b : Option (List ℕ)) (r : Result T E) (p xs ys text : List ℕ) → IsErr r → p ≡ [] → xs ++ ys ≡ text → AppendsPrefix a b (p ++ xs) → Puts a b r text
put_part a b (Ok v) p xs ys text is none same h = absurd (let no : ⊥ = cc in no)
put_part a b (Err e) p xs ys text is none same h = subst (λ t. AppendsPrefix a b t) (ap (λ t. (t ++ xs) ++ ys) none ∙ same) (begins_first a b (p ++ xs) ys h)

-- ---- a text that is put without being gathered

-- a prefix of what was gathered was put, and no more
pub passed_first : {T E : Type 0} (a b : Option (List ℕ)) (p q : List ℕ) (r : Result T E) (xs : List ℕ) → IsErr r → AppendsPrefix a b p → Adds a b p q r xs
passed_first a b p q (Ok v) xs is h = absurd (let no : ⊥ = cc in no)
passed_first a b p q (Err e) xs is h = begins_first a b p xs h

-- what was gathered was put, and then the text was put or failed
pub passed_on : {T E : Type 0} (a b c : Option (List ℕ)) (p q : List ℕ) (r : Result T E) (xs : List ℕ) → q ≡ [] → Appends a b p → Puts b c r xs → Adds a c p q r xs
passed_on a b c p q (Ok v) xs none g h =
    record { put = p ++ xs; grown = grows_more a b c p xs g h; all = ap (λ t. (p ++ xs) ++ t) none ∙ append-nil (p ++ xs) }
passed_on a b c p q (Err e) xs none g h = begins_more a b c p xs g h

-- ---- lines of words

pub spaced-first : (w : List ℕ) (ws : List (List ℕ)) → w ++ (flat_map (λ v. 32 ∷ v) ws ++ 10 ∷ []) ≡ spaced (w ∷ ws)
spaced-first w [] = refl
spaced-first w (v ∷ ws) = ap (λ t. w ++ (32 ∷ t)) (append_assoc v (flat_map (λ v. 32 ∷ v) ws) (10 ∷ []) ∙ spaced-first v ws)

-- the line of one or more words
pub line_first : (words : List (Bor (List ℕ))) (d : Bor (List ℕ)) → 1 ≤ length words
    → (get_or words 0 d).now ++ (flat_map (λ w. 32 ∷ w.now) (take (length words - 1) (drop 1 words)) ++ 10 ∷ []) ≡ spaced (map (λ w. w.now) words)
line_first [] d some = absurd (omega arith)
line_first (w ∷ ws) d some =
    let all : length (w ∷ ws) - 1 ≡ length ws = omega arith in
    let rest : List (Bor (List ℕ)) → List ℕ = λ vs. w.now ++ (flat_map (λ v. 32 ∷ v.now) vs ++ 10 ∷ []) in
    ap (λ n. rest (take n ws)) all ∙ ap rest (take_all (length ws) ws (omega arith))
    ∙ ap (λ t. w.now ++ (t ++ 10 ∷ [])) (sym (flat_map-map (λ v. 32 ∷ v) (λ (v : Bor (List ℕ)). v.now) ws)) ∙ spaced-first w.now (map (λ w. w.now) ws)
