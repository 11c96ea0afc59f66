-- What stays sound when types, blocks and wires are added.
use Rattle.std.proofs.Common.{◌≡◌, ℕ, ◌≤◌, true, false, List, [], ◌∷◌, ◌++◌, length, refl, sym, ap, ◌∙◌, append_assoc, append-nil, length-append, arith}
use Rattle.std.specs.Prelude.{nat_lt}
use Rattle.std.specs.List.{list_any, list_all}
use Rattle.std.proofs.lemmas.Bool.{and_from, ltb-true, lt-ltb}
use Rattle.std.proofs.lemmas.List.{map-append}
use Rattle.std.proofs.lemmas.List.Folds.{list_any-append, list_all-append}
use Rattle.text_rules.specs.Names.{Name, is_among}
use Rattle.text_rules.proofs.PartLemmas.{passes_too}
use Rattle.state_rules.proofs.Lists.{slice_get-before}
use Rattle.component_lang.proofs.NameLists.{same_name-sym, are_distinct-cons}
use Rattle.component_lang.specs.declared.design.UsedKind.{UsedKind}
use Rattle.component_lang.specs.declared.design.Used.{Used}
use Rattle.component_lang.specs.declared.design.Shape.{Shape}
use Rattle.component_lang.specs.declared.design.Block.{Block}
use Rattle.component_lang.specs.Designs.{is_plain_name, are_distinct, used_names, takes_args, is_used, is_block, are_blocks}

-- ---- more types, and more blocks above

takes_more : (types types' : List Shape) (above above' : List Block) (kind : UsedKind) (args : ℕ)
    → takes_args types above kind args ≡ true → takes_args (types ++ types') (above ++ above') kind args ≡ true
takes_more types types' above above' kind args h = grind (arith, slice_get-before)

-- ---- more wires

below_more : (n m place : ℕ) → n ≤ m → nat_lt place n ≡ true → nat_lt place m ≡ true
below_more n m place l h = lt-ltb place m (let b = ltb-true place n h in omega arith)

used_more : (types types' : List Shape) (above : List Block) (n m : ℕ) (used : Used) → n ≤ m → is_used types above n used ≡ true → is_used (types ++ types') above m used ≡ true
used_more types types' above n m used l h = grind (arith, append-nil, takes_more types types' above [], passes_too (λ wire. nat_lt wire n) (λ wire. nat_lt wire m), below_more n m)

-- blocks stay sound under more types
pub are_blocks-types : (types types' : List Shape) (above blocks : List Block) → are_blocks types above blocks ≡ true → are_blocks (types ++ types') above blocks ≡ true
are_blocks-types types types' above [] h = refl
are_blocks-types types types' above (block ∷ blocks) h = grind (arith, are_blocks-types types types' (above ++ block ∷ []) blocks, passes_too, used_more)

-- one more block
pub are_blocks-more : (types : List Shape) (above blocks : List Block) (block : Block) → are_blocks types above blocks ≡ true → is_block types (above ++ blocks) block ≡ true
    → are_blocks types above (blocks ++ block ∷ []) ≡ true
are_blocks-more types above [] block h g = and_from _ _ (ap (λ bs. is_block types bs block) (sym (append-nil above)) ∙ g) refl
are_blocks-more types above (b ∷ blocks) block h g = grind (arith, append_assoc, are_blocks-more types (above ++ b ∷ []) blocks block)

-- ---- names that differ

-- two lists of different names, if no name is in both
pub are_distinct-append : (xs ys : List Name) → are_distinct xs ≡ true → are_distinct ys ≡ true → list_any (is_among xs) ys ≡ false → are_distinct (xs ++ ys) ≡ true
are_distinct-append [] ys h g apart = g
are_distinct-append (x ∷ xs) ys h g apart = grind (arith, are_distinct-cons, list_any-append, are_distinct-append xs ys, any_first ys)
  where
    any_first : (ns : List Name) → list_any (is_among (x ∷ xs)) ns ≡ false → (is_among ns x ≡ false) × (list_any (is_among xs) ns ≡ false)
    any_first [] e = (refl, refl)
    any_first (n ∷ ns) e = grind (arith, same_name-sym, any_first ns)

-- ---- a block with more wires or one more part

pub block-wires : (types : List Shape) (above : List Block) (block : Block) (names : List Name) → is_block types above block ≡ true → list_all is_plain_name names ≡ true
    → are_distinct names ≡ true → list_any (is_among block.wires) names ≡ false → is_block types above (record block { wires = block.wires ++ names }) ≡ true
block-wires types above block names h plain once apart =
    let used : (u : Used) → is_used types above (length block.wires) u ≡ true → is_used types above (length (block.wires ++ names)) u ≡ true =
    λ u g. ap (λ ts. is_used ts above (length (block.wires ++ names)) u) (sym (append-nil types)) ∙ used_more types [] above (length block.wires) (length (block.wires ++ names)) u (omega (arith, length-append block.wires names)) g in
    grind (arith, are_distinct-append, list_all-append, length-append, passes_too (is_used types above (length block.wires)) (is_used types above (length (block.wires ++ names))) used)

pub block-part : (types : List Shape) (above : List Block) (block : Block) (part : Used) → is_block types above block ≡ true → is_used types above (length block.wires) part ≡ true
    → is_among (used_names block.parts) part.name ≡ false → is_block types above (record block { parts = block.parts ++ part ∷ [] }) ≡ true
block-part types above block part h used new = grind (arith, map-append, are_distinct-append, list_all-append)
