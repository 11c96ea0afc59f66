-- What each line of a design adds to what is read above it, or its fault.
use Rattle.std.specs.Prelude.{ℕ, Bool, not, ◌&&◌, List, [], ◌∷◌, ◌++◌, map, length, ◌==◌, Option, Some, None, Result, Ok, Err, codes, is_some, unwrap_or, if◌then◌else◌}
use Rattle.std.specs.List.{list_any, list_all}
use Rattle.std.specs.Result.{result_map_both}
use Rattle.text_rules.specs.Names.{Name, same_name, is_among}
use Rattle.text_rules.specs.Numbers.{plain_number_in}
use Rattle.text_rules.specs.TextLines.{uncommented}
use Rattle.text_rules.specs.Tokens.{words}
use Rattle.device_model.specs.declared.limits.TheConstants.{COST_LIMIT}
use Rattle.device_model.specs.TruthTable.{has_few_ports}
use Rattle.device_model.specs.Building.{place_in}
use Rattle.component_lang.specs.declared.design.UsedKind.{UsedKind}
use Rattle.component_lang.specs.declared.design.UsedKind.TheVariants.{Block as OfBlock}
use Rattle.component_lang.specs.declared.design.Used.{Used}
use Rattle.component_lang.specs.declared.design.Block.{Block}
use Rattle.component_lang.specs.declared.fault.LangFault.{LangFault}
use Rattle.component_lang.specs.declared.fault.LangFault.TheVariants.{Line as NotHere, Name as NoName, Twice, Unknown, Ports, Row, AfterTop as PastTop, Cost}
use Rattle.component_lang.specs.Designs.{is_plain_name, are_distinct, used_names, takes_args}
use Rattle.component_lang.specs.Kinds.{OpenType, Section, Outside, InType, InBlock, AfterTop, Reader, kind_named}
use Rattle.component_lang.specs.TypeRows.{is_row, row_in, with_row, shape_of}

-- the fault of the first test that fails, or `reader` if none does
abbrev pub tested : List (Bool × LangFault) → Reader → Result Reader LangFault
tested [] reader = Ok reader
tested (t ∷ tests) reader = if t.0 then tested tests reader else Err t.1

-- `reader`, with its next line in another section
abbrev pub at : Reader → Section → Reader
at reader section = record reader { section = section }

-- ---- outside of types and blocks

-- whether a name is free for a type or a block, and its ports have different names
abbrev pub is_new : Reader → Name → List Name → Bool
is_new reader name ports = not (is_some (kind_named reader name)) && are_distinct ports

-- `type NAME PORT ..`
abbrev pub type_line : Reader → Name → List Name → Result Reader LangFault
type_line reader name ports =
    tested ((list_all is_plain_name (name ∷ ports), NoName) ∷ (is_new reader name ports, Twice) ∷ (has_few_ports (length ports), Ports) ∷ [])
    (at reader (InType (record { name = name; ports = length ports; ok = 0; bad = None; cost = None })))

-- `block NAME PORT ..`
abbrev pub block_line : Reader → Name → List Name → Result Reader LangFault
block_line reader name ports =
    tested ((list_all is_plain_name (name ∷ ports), NoName) ∷ (is_new reader name ports, Twice) ∷ [])
    (at reader (InBlock (record { name = name; ports = length ports; wires = ports; parts = [] })))

-- the top has to be a block
abbrev pub top_of_kind : Reader → Option UsedKind → Result Reader LangFault
top_of_kind reader (Some (OfBlock place)) = Ok (at reader (AfterTop place))
top_of_kind reader kind = Err Unknown

-- `top NAME`
abbrev pub top_line : Reader → Name → Result Reader LangFault
top_line reader name = if is_plain_name name then top_of_kind reader (kind_named reader name) else Err NoName

-- a line outside, by its words
abbrev pub outside : Reader → List (List ℕ) → Result Reader LangFault
outside reader (word ∷ name ∷ ports) =
    if same_name word (codes "type") then type_line reader name ports
    else if same_name word (codes "block") then block_line reader name ports
    else if same_name word (codes "top") && (length ports == 0) then top_line reader name
    else Err NotHere
outside reader line = Err NotHere

-- ---- in a type

-- `ok ROW`
abbrev pub ok_line : Reader → OpenType → List ℕ → Result Reader LangFault
ok_line reader open_type row =
    tested ((is_row open_type.ports row, Row) ∷ [])
    (at reader (InType (record open_type { ok = with_row open_type.ok (row_in row) })))

-- `bad ROW`
abbrev pub bad_line : Reader → OpenType → List ℕ → Result Reader LangFault
bad_line reader open_type row =
    tested ((is_row open_type.ports row, Row) ∷ [])
    (at reader (InType (record open_type { bad = Some (with_row (unwrap_or open_type.bad 0) (row_in row)) })))

-- `cost N`, at most once in a type, N from 1 to 1000
abbrev pub cost_line : Reader → OpenType → List ℕ → Result Reader LangFault
cost_line reader open_type word =
    let cost = plain_number_in 4 1 COST_LIMIT word in
    tested ((not (is_some open_type.cost), Twice) ∷ (is_some cost, Cost) ∷ []) (at reader (InType (record open_type { cost = cost })))

-- a line by its words: `end` closes the type
abbrev pub in_type : Reader → OpenType → List (List ℕ) → Result Reader LangFault
in_type reader open_type (word ∷ []) =
    if same_name word (codes "end") then Ok (record reader { types = reader.types ++ shape_of open_type ∷ []; section = Outside })
    else Err NotHere
in_type reader open_type (word ∷ value ∷ []) =
    if same_name word (codes "ok") then ok_line reader open_type value
    else if same_name word (codes "bad") then bad_line reader open_type value
    else if same_name word (codes "cost") then cost_line reader open_type value
    else Err NotHere
in_type reader open_type line = Err NotHere

-- ---- in a block

-- `wire NAME ..`
abbrev pub wire_line : Reader → Block → List Name → Result Reader LangFault
wire_line reader block names =
    tested ((list_all is_plain_name names, NoName) ∷ (are_distinct names && not (list_any (is_among block.wires) names), Twice) ∷ [])
    (at reader (InBlock (record block { wires = block.wires ++ names })))

-- the places of `names` among the wires of a block, if all are there
abbrev pub places_in : List Name → List Name → Option (List ℕ)
places_in wires names = if list_all (is_among wires) names then Some (map (place_in wires) names) else None

-- the part of this name, kind and places; the number of places is tested last
abbrev pub part_of : Reader → Name → Option UsedKind → Option (List ℕ) → Result Used LangFault
part_of reader name None places = Err Unknown
part_of reader name (Some kind) None = Err Unknown
part_of reader name (Some kind) (Some places) =
    if takes_args reader.types reader.blocks kind (length places) then Ok (record { name = name; kind = kind; args = places }) else Err Ports

-- `part NAME KIND WIRE ..`
abbrev pub part_line : Reader → Block → Name → Name → List Name → Result Reader LangFault
part_line reader block name kind args =
    if list_all is_plain_name (name ∷ kind ∷ args) then
    (if is_among (used_names block.parts) name then Err Twice
    else result_map_both (λ part. at reader (InBlock (record block { parts = block.parts ++ part ∷ [] }))) (λ what. what)
    (part_of reader name (kind_named reader kind) (places_in block.wires args)))
    else Err NoName

-- a line by its words: `end` closes the block
abbrev pub in_block : Reader → Block → List (List ℕ) → Result Reader LangFault
in_block reader block (word ∷ []) =
    if same_name word (codes "end") then Ok (record reader { blocks = reader.blocks ++ block ∷ []; section = Outside })
    else Err NotHere
in_block reader block (word ∷ name ∷ []) =
    if same_name word (codes "wire") then wire_line reader block (name ∷ []) else Err NotHere
in_block reader block (word ∷ name ∷ second ∷ rest) =
    if same_name word (codes "wire") then wire_line reader block (name ∷ second ∷ rest)
    else if same_name word (codes "part") then part_line reader block name second rest
    else Err NotHere
in_block reader block line = Err NotHere

-- ---- any line

-- A line without words adds nothing. No other line may follow the top.
abbrev pub at_section : Reader → Section → List (List ℕ) → Result Reader LangFault
at_section reader section [] = Ok reader
at_section reader Outside line = outside reader line
at_section reader (InType open_type) line = in_type reader open_type line
at_section reader (InBlock block) line = in_block reader block line
at_section reader (AfterTop top) line = Err PastTop

-- what is read after `line`
abbrev pub after_line : Reader → List ℕ → Result Reader LangFault
after_line reader line = at_section reader reader.section (words (uncommented line))
