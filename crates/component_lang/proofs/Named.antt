-- What the names of types and blocks mean.
use Rattle.std.proofs.Common.{◌≡◌, ℕ, ◌+◌, ◌<◌, Bool, true, false, not, List, [], ◌∷◌, ◌++◌, map, length, Option, Some, is_some, refl, ap, ◌∙◌, arith}
use Rattle.std.specs.Prelude.{position}
use Rattle.std.specs.List.{enumerate_from}
use Rattle.std.specs.Map.{lookup}
use Rattle.std.specs.Option.{option_map, option_or}
use Rattle.std.proofs.lemmas.Map.Made.{lookup-map_values}
use Rattle.std.proofs.lemmas.List.{length-map}
use Rattle.text_rules.specs.Names.{Name, same_name, is_among}
use Rattle.device_model.specs.declared.gates.Kind.{Kind}
use Rattle.device_model.specs.Gates.{gate_words, gate_named}
use Rattle.component_lang.specs.declared.design.UsedKind.{UsedKind}
use Rattle.component_lang.specs.declared.design.UsedKind.TheVariants.{Gate, Shape as OfShape, Block as OfBlock}
use Rattle.component_lang.specs.declared.design.Shape.{Shape}
use Rattle.component_lang.specs.declared.design.Block.{Block}
use Rattle.component_lang.specs.Kinds.{Reader, kind_named}
use Rattle.component_lang.proofs.NameLists.{among_position}

abbrev pub type_names : List Shape → List Name
type_names types = map (λ (shape : Shape). shape.name) types

abbrev pub block_names : List Block → List Name
block_names blocks = map (λ (block : Block). block.name) blocks

abbrev Kinds : Type 0
Kinds = List (List ℕ × UsedKind)

lookup-append : (p : Name → Bool) (xs ys : Kinds) → lookup p (xs ++ ys) ≡ option_or (lookup p xs) (lookup p ys)
lookup-append p [] ys = refl
lookup-append p (x ∷ xs) ys = grind (arith, lookup-append p xs ys)

module _ (make : ℕ → UsedKind) where
  -- names with their places
  abbrev placed_from : ℕ → List Name → Kinds
  placed_from place [] = []
  placed_from place (n ∷ names) = (n, make place) ∷ placed_from (place + 1) names

  lookup-placed : (p : Name → Bool) (place : ℕ) (names : List Name) → lookup p (placed_from place names) ≡ option_map (λ i. make (place + i)) (position p names)
  lookup-placed p place [] = refl
  lookup-placed p place (n ∷ names) = grind (arith, lookup-placed p (place + 1) names)

  from_zero : (o : Option ℕ) → option_map (λ i. make (0 + i)) o ≡ option_map make o
  from_zero o = grind arith

types-placed : (place : ℕ) (types : List Shape) → map (λ (t : ℕ × Shape). (t.1.name, OfShape t.0)) (enumerate_from place types) ≡ placed_from OfShape place (type_names types)
types-placed place [] = refl
types-placed place (t ∷ types) = ap (λ ks. (t.name, OfShape place) ∷ ks) (types-placed (place + 1) types)

blocks-placed : (place : ℕ) (blocks : List Block) → map (λ (b : ℕ × Block). (b.1.name, OfBlock b.0)) (enumerate_from place blocks) ≡ placed_from OfBlock place (block_names blocks)
blocks-placed place [] = refl
blocks-placed place (b ∷ blocks) = ap (λ ks. (b.name, OfBlock place) ∷ ks) (blocks-placed (place + 1) blocks)

-- a name means a gate, else a type, else a block
pub kind_named-split : (reader : Reader) (name : Name) → kind_named reader name
    ≡ option_or (option_map Gate (gate_named name)) (option_or (option_map OfShape (position (same_name name) (type_names reader.types))) (option_map OfBlock (position (same_name name) (block_names reader.blocks))))
kind_named-split reader name =
    let found = same_name name in
    let gate = lookup-map_values Gate found gate_words in
    let type = ap (lookup found) (types-placed 0 reader.types) ∙ lookup-placed OfShape found 0 (type_names reader.types) ∙ from_zero OfShape (position found (type_names reader.types)) in
    let block = ap (lookup found) (blocks-placed 0 reader.blocks) ∙ lookup-placed OfBlock found 0 (block_names reader.blocks) ∙ from_zero OfBlock (position found (block_names reader.blocks)) in
    let types = map (λ (t : ℕ × Shape). (t.1.name, OfShape t.0)) (enumerate_from 0 reader.types) in
    let blocks = map (λ (b : ℕ × Block). (b.1.name, OfBlock b.0)) (enumerate_from 0 reader.blocks) in
    lookup-append found (map (λ (e : Name × Kind). (e.0, Gate e.1)) gate_words) (types ++ blocks)
    ∙ (λ i. option_or (gate i) ((lookup-append found types blocks ∙ (λ k. option_or (type k) (block k))) i))

-- ---- free names

pub record IsFree (reader : Reader) (name : Name) : Type 0 where
  pub no_type : is_among (type_names reader.types) name ≡ false
  pub no_block : is_among (block_names reader.blocks) name ≡ false

-- a name without a meaning names neither a type nor a block
pub free_names : (reader : Reader) (name : Name) → not (is_some (kind_named reader name)) ≡ true → IsFree reader name
free_names reader name h = grind (arith, kind_named-split, among_position)

-- ---- the place of a block

-- a name that means a block has the place of one
pub kind_named-place : (reader : Reader) (name : Name) (place : ℕ) → kind_named reader name ≡ Some (OfBlock place) → place < length reader.blocks
kind_named-place reader name place e = grind (arith, kind_named-split, length-map)
