-- Each line keeps a reader sound, and adds no more to it than it has words.
use Rattle.std.proofs.Common.{◌≡◌, ℕ, ◌+◌, ◌-◌, ◌^◌, ◌<◌, ◌≤◌, Bool, true, false, not, List, [], ◌∷◌, ◌++◌, map, length, codes, Option, Some, None, Result, Ok, Err, unwrap_or, refl, length-append, length-take, arith}
use Rattle.std.specs.Prelude.{◌==◌, nat_lt, if◌then◌else◌}
use Rattle.std.specs.List.{list_all, prefix_len}
use Rattle.std.specs.Result.{result_map_both}
use Rattle.std.proofs.lemmas.Bool.{and_parts, ltb-true, lt-ltb}
use Rattle.std.proofs.lemmas.Nat.{pow_pos}
use Rattle.text_rules.specs.Names.{Name, same_name, is_among}
use Rattle.text_rules.specs.Numbers.{plain_number_in}
use Rattle.text_rules.specs.TextLines.{uncommented}
use Rattle.text_rules.specs.Tokens.{words}
use Rattle.text_rules.proofs.TokenLemmas.{length-tokens}
use Rattle.device_model.specs.declared.limits.TheConstants.{COST_LIMIT}
use Rattle.device_model.specs.TruthTable.{is_cost}
use Rattle.device_model.specs.Building.{place_in}
use Rattle.component_lang.specs.declared.design.UsedKind.{UsedKind}
use Rattle.component_lang.specs.declared.design.Block.{Block}
use Rattle.component_lang.specs.declared.fault.LangFault.{LangFault}
use Rattle.component_lang.specs.declared.fault.LangFault.TheVariants.{Line as NotHere, Name as NoName, Twice}
use Rattle.component_lang.specs.Designs.{is_plain_name, used_names, is_block, are_blocks}
use Rattle.component_lang.specs.Kinds.{OpenType, Section, Outside, InType, InBlock, AfterTop, Reader, kind_named}
use Rattle.component_lang.specs.TypeRows.{is_row, row_in, with_row}
use Rattle.component_lang.specs.DesignLines.{at, type_line, block_line, ok_line, bad_line, cost_line, wire_line, part_of, part_line, outside, in_type, in_block, at_section, after_line, top_line}
use Rattle.component_lang.specs.inner.Sound.{is_free, is_sound_type, is_sound_block, is_sound_section, is_sound, open_wires, reader_size}
use Rattle.component_lang.proofs.RowSets.{row_in-fits, with_row-fits}
use Rattle.component_lang.proofs.NameLists.{among_position}
use Rattle.component_lang.proofs.Named.{kind_named-place}
use Rattle.component_lang.proofs.Grown.{are_blocks-types, are_blocks-more, block-wires, block-part}

abbrev pub Keeps : ℕ → Result Reader LangFault → Type 0
Keeps n (Ok next) = (is_sound next ≡ true) × (reader_size next ≤ n)
Keeps n (Err what) = Unit {0}

if-keeps : (n : ℕ) (b : Bool) (what : LangFault) (r : Result Reader LangFault) → (b ≡ true → Keeps n r) → Keeps n (if b then r else Err what)
if-keeps n b what r h = grind arith

unless-keeps : (n : ℕ) (b : Bool) (what : LangFault) (r : Result Reader LangFault) → (b ≡ false → Keeps n r) → Keeps n (if b then Err what else r)
unless-keeps n b what r h = grind arith

-- either of two results
either-keeps : (n : ℕ) (b : Bool) (r s : Result Reader LangFault) → Keeps n r → Keeps n s → Keeps n (if b then r else s)
either-keeps n b r s h g = grind arith

-- a cost that is read is allowed
cost-fits : (word : List ℕ) → is_cost (unwrap_or (plain_number_in 4 1 COST_LIMIT word) 1) ≡ true
cost-fits word = grind arith

module _ (reader : Reader) (n : ℕ) (blocks_sound : are_blocks reader.types [] reader.blocks ≡ true) where
  type_line-keeps : (name : Name) (ports : List Name) → length reader.types + length reader.blocks ≤ n → Keeps n (type_line reader name ports)
  type_line-keeps name ports l = grind (arith, pow_pos, lt-ltb)

  block_line-keeps : (name : Name) (ports : List Name) → length reader.types + length reader.blocks + length ports ≤ n → Keeps n (block_line reader name ports)
  block_line-keeps name ports l = grind arith

  top_line-keeps : (name : Name) → length reader.types + length reader.blocks ≤ n → Keeps n (top_line reader name)
  top_line-keeps name l = grind (arith, kind_named-place)

  outside-keeps : (line : List Name) → length reader.types + length reader.blocks + length line ≤ n → Keeps n (outside reader line)
  outside-keeps [] l = tt
  outside-keeps (word ∷ []) l = tt
  outside-keeps (word ∷ name ∷ ports) l = grind (arith, type_line-keeps name ports, block_line-keeps name ports, top_line-keeps name)

  -- ---- in a type

  module _ (open_type : OpenType) (sound : is_sound_type reader open_type ≡ true) where
    bad_fits : (o : Option ℕ) → nat_lt (unwrap_or o (2 ^ (2 ^ open_type.ports) - 1)) (2 ^ (2 ^ open_type.ports)) ≡ true → unwrap_or o 0 < 2 ^ (2 ^ open_type.ports)
    bad_fits o h = grind arith

    row_fits : (row : List ℕ) → is_row open_type.ports row ≡ true → row_in row < 2 ^ open_type.ports
    row_fits row h = grind (arith, row_in-fits)

    more_fits : (rows : ℕ) (row : List ℕ) → rows < 2 ^ (2 ^ open_type.ports) → is_row open_type.ports row ≡ true → nat_lt (with_row rows (row_in row)) (2 ^ (2 ^ open_type.ports)) ≡ true
    more_fits rows row h is = lt-ltb (with_row rows (row_in row)) (2 ^ (2 ^ open_type.ports)) (with_row-fits (2 ^ open_type.ports) rows (row_in row) h (row_fits row is))

    in_type-keeps : (line : List (List ℕ)) → length reader.types + length reader.blocks + length line ≤ n → Keeps n (in_type reader open_type line)
    in_type-keeps [] l = tt
    in_type-keeps (word ∷ []) l = grind (arith, are_blocks-types, length-append)
    in_type-keeps (word ∷ value ∷ []) l =
        either-keeps n (same_name word (codes "ok")) (ok_line reader open_type value) _ (grind (arith, more_fits open_type.ok value, ltb-true))
        (either-keeps n (same_name word (codes "bad")) (bad_line reader open_type value) _ (grind (arith, more_fits (unwrap_or open_type.bad 0) value, bad_fits open_type.bad))
        (either-keeps n (same_name word (codes "cost")) (cost_line reader open_type value) (Err NotHere) (grind (arith, cost-fits value)) tt))
    in_type-keeps (word ∷ value ∷ more ∷ line) l = tt

  -- ---- in a block

  module _ (block : Block) (sound : is_sound_block reader block ≡ true) where
    block_free : is_free reader block.name ≡ true
    block_free = (and_parts (is_free reader block.name) _ sound).0

    block_sound : is_block reader.types reader.blocks block ≡ true
    block_sound = (and_parts (is_free reader block.name) _ sound).1

    wire_line-keeps : (names : List Name) → length reader.types + length reader.blocks + (length block.wires + length names) ≤ n → Keeps n (wire_line reader block names)
    wire_line-keeps names l = grind (arith, block-wires, length-append)

    places_below : (args : List Name) → list_all (is_among block.wires) args ≡ true → list_all (λ wire. nat_lt wire (length block.wires)) (map (place_in block.wires) args) ≡ true
    places_below [] h = refl
    places_below (a ∷ args) h = grind (arith, among_position, places_below args)

    part_line-keeps : (name kind : Name) (args : List Name) → length reader.types + length reader.blocks + length block.wires ≤ n → Keeps n (part_line reader block name kind args)
    part_line-keeps name kind args l =
        if-keeps n (list_all is_plain_name (name ∷ kind ∷ args)) NoName _ (λ plain.
        unless-keeps n (is_among (used_names block.parts) name) Twice _ (λ new.
        of_kind (kind_named reader kind) (list_all (is_among block.wires) args) refl (and_parts _ _ plain).0 new))
      where
        of_kind : (o : Option UsedKind) (b : Bool) → list_all (is_among block.wires) args ≡ b → is_plain_name name ≡ true → is_among (used_names block.parts) name ≡ false
            → Keeps n (result_map_both (λ part. at reader (InBlock (record block { parts = block.parts ++ part ∷ [] }))) (λ what. what) (part_of reader name o (if b then Some (map (place_in block.wires) args) else None)))
        of_kind None b wired plain new = tt
        of_kind (Some is) false wired plain new = tt
        of_kind (Some is) true wired plain new =
            grind (arith, block_free, block-part reader.types reader.blocks block (record { name = name; kind = is; args = map (place_in block.wires) args }) block_sound, places_below args wired)

    in_block-keeps : (line : List (List ℕ)) → length reader.types + length reader.blocks + length block.wires + length line ≤ n → Keeps n (in_block reader block line)
    in_block-keeps [] l = tt
    in_block-keeps (word ∷ []) l = grind (arith, are_blocks-more, length-append)
    in_block-keeps (word ∷ name ∷ []) l = grind (arith, wire_line-keeps (name ∷ []))
    in_block-keeps (word ∷ name ∷ second ∷ rest) l = grind (arith, wire_line-keeps (name ∷ second ∷ rest), part_line-keeps name second rest)

-- ---- lines

at_section-keeps : (reader : Reader) (place : Section) (n : ℕ) (line : List (List ℕ)) → reader.section ≡ place → are_blocks reader.types [] reader.blocks ≡ true → is_sound_section reader place ≡ true
    → length reader.types + length reader.blocks + open_wires place + length line ≤ n → Keeps n (at_section reader place line)
at_section-keeps reader place n [] is blocks sound l = grind arith
at_section-keeps reader Outside n (word ∷ line) is blocks sound l = outside-keeps reader n blocks (word ∷ line) (omega (arith, l))
at_section-keeps reader (InType open_type) n (word ∷ line) is blocks sound l = in_type-keeps reader n blocks open_type sound (word ∷ line) (omega (arith, l))
at_section-keeps reader (InBlock block) n (word ∷ line) is blocks sound l = in_block-keeps reader n blocks block sound (word ∷ line) (omega (arith, l))
at_section-keeps reader (AfterTop top) n (word ∷ line) is blocks sound l = tt

uncommented-fits : (line : List ℕ) → length (uncommented line) ≤ length line
uncommented-fits line = omega (arith, length-take (prefix_len (λ b. not (b == 35)) line) line)

-- A line keeps a reader sound, and adds no more types, blocks and wires than it has bytes.
pub after_line-keeps : (reader : Reader) (line : List ℕ) (n : ℕ) → is_sound reader ≡ true → reader_size reader + length line ≤ n → Keeps n (after_line reader line)
after_line-keeps reader line n sound l = grind (arith, at_section-keeps reader reader.section n (words (uncommented line)) refl, length-tokens, uncommented-fits)

-- a line has no more words than bytes
pub words-fit : (line : List ℕ) → length (words (uncommented line)) ≤ length line
words-fit line = omega (arith, length-tokens false (uncommented line), uncommented-fits line)
