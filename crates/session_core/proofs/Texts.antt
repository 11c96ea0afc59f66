-- The texts of replies.
use Rattle.std.proofs.Common.{◌≡◌, ℕ, ◌+◌, ◌<◌, true, false, List, [], ◌∷◌, ◌++◌, length, map, drop, Option, sym, append_assoc, get_or, Result, IsErr, arith}
use Rattle.std.specs.Prelude.{◌==◌, if◌then◌else◌}
use Rattle.diag_edge.specs.Edge.{AppendsPrefix}
use denote.Ref.{Bor}
use Rattle.std.specs.List.{flat_map}
use Rattle.std.proofs.lemmas.List.Concat.{flat_map-append}
use Rattle.std.proofs.lemmas.List.{drop_more}
use Rattle.std.proofs.lemmas.List.Folds.{flat_map-map}
use Rattle.diag_edge.specs.Adding.{Grown, Adds}
use Rattle.diag_edge.proofs.Added.{grown_more, part_more, adds_first, spaced-first}
use Rattle.text_rules.specs.Names.{Name}
use Rattle.text_rules.specs.Tokens.{spaced}
use Rattle.conditioner.specs.Evidence.{bits_of}
use Rattle.session_rules.specs.Replies.{faulty_names}
use Rattle.session_core.specs.inner.Texts.{spaced_before}

-- a line from its pieces
pub line_pieces : (session : Name) (words : List (Bor (List ℕ))) (names : List Name)
    → (session ++ flat_map (λ word. 32 ∷ word.now) words) ++ (spaced_before names ++ 10 ∷ []) ≡ spaced (session ∷ (map (λ word. word.now) words ++ names))
line_pieces session words names =
    let front : List Name = map (λ (word : Bor (List ℕ)). word.now) words in
    let same : flat_map (λ (word : Bor (List ℕ)). 32 ∷ word.now) words ≡ spaced_before front = sym (flat_map-map (λ (w : List ℕ). 32 ∷ w) (λ (word : Bor (List ℕ)). word.now) words) in
    grind (arith, append_assoc session (spaced_before front) (spaced_before names ++ 10 ∷ []), append_assoc (spaced_before front) (spaced_before names) (10 ∷ []), flat_map-append, spaced-first session (front ++ names))

-- the faulty parts among those left
pub faulty-drop : (parts : List Name) (state : List ℕ) (i : ℕ) → i < length parts → i < length state
    → faulty_names (drop i parts) (bits_of (drop i state)) ≡ (if get_or state i 0 == 0 then faulty_names (drop (i + 1) parts) (bits_of (drop (i + 1) state)) else get_or parts i [] ∷ faulty_names (drop (i + 1) parts) (bits_of (drop (i + 1) state)))
faulty-drop parts state i h g = grind (arith, drop_more)

-- the next part is faulty, and named
pub named : (parts : List Name) (state : List ℕ) (i : ℕ) (part name : Name) → i < length parts → i < length state → part ≡ get_or parts i [] → name ≡ part → (get_or state i 0 == 0) ≡ false
    → spaced_before (faulty_names (drop i parts) (bits_of (drop i state))) ≡ (32 ∷ name) ++ spaced_before (faulty_names (drop (i + 1) parts) (bits_of (drop (i + 1) state)))
named parts state i part name h g is so off = grind (arith, faulty-drop)

-- the next part is ok, and skipped
pub passed_over : (parts : List Name) (state : List ℕ) (i : ℕ) → i < length parts → i < length state → (get_or state i 0 == 0) ≡ true
    → spaced_before (faulty_names (drop i parts) (bits_of (drop i state))) ≡ spaced_before (faulty_names (drop (i + 1) parts) (bits_of (drop (i + 1) state)))
passed_over parts state i h g on = grind (arith, faulty-drop)

-- some names were added, then the next one
pub named_more : (a b c : Option (List ℕ)) (p q r text piece before rest total : List ℕ) → Grown a b p q text → text ++ before ≡ total → before ≡ piece ++ rest → Grown b c q r piece
    → (more : List ℕ) × Grown a c p r more × (more ++ rest ≡ total)
named_more a b c p q r text piece before rest total grown all is added = grind (arith, grown_more a b c p q r text piece grown added, append_assoc text piece rest)

-- some names were added, then a put failed with the next one
pub named_part : {T E : Type 0} (a b c : Option (List ℕ)) (p q r : List ℕ) (result : Result T E) (text piece before rest total : List ℕ) → IsErr result → Grown a b p q text
    → text ++ before ≡ total → before ≡ piece ++ rest → AppendsPrefix b c (q ++ piece) → Adds a c p r result total
named_part a b c p q r result text piece before rest total failed grown all is part = grind (arith, append_assoc text piece rest, adds_first a c p r result (text ++ piece) rest failed (part_more a b c p q text piece grown part))
