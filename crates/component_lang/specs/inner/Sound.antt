-- What is true of a reader between two lines.
use Rattle.std.specs.Prelude.{ℕ, ◌+◌, Bool, true, not, ◌&&◌, [], length, is_some, nat_lt}
use Rattle.text_rules.specs.Names.{Name}
use Rattle.device_model.specs.TruthTable.{is_table}
use Rattle.component_lang.specs.declared.design.Block.{Block}
use Rattle.component_lang.specs.Designs.{is_plain_name, is_block, are_blocks}
use Rattle.component_lang.specs.Kinds.{OpenType, Section, Outside, InType, InBlock, AfterTop, Reader, kind_named}
use Rattle.component_lang.specs.TypeRows.{shape_of}

-- whether a name is plain and means no gate, type or block
abbrev pub is_free : Reader → Name → Bool
is_free reader name = is_plain_name name && not (is_some (kind_named reader name))

abbrev pub is_sound_type : Reader → OpenType → Bool
is_sound_type reader open_type = is_free reader open_type.name && is_table (shape_of open_type).table

abbrev pub is_sound_block : Reader → Block → Bool
is_sound_block reader block = is_free reader block.name && is_block reader.types reader.blocks block

abbrev pub is_sound_section : Reader → Section → Bool
is_sound_section reader Outside = true
is_sound_section reader (InType open_type) = is_sound_type reader open_type
is_sound_section reader (InBlock block) = is_sound_block reader block
is_sound_section reader (AfterTop top) = nat_lt top (length reader.blocks)

-- whether the closed blocks are as in a design, and the section is sound
abbrev pub is_sound : Reader → Bool
is_sound reader = are_blocks reader.types [] reader.blocks && is_sound_section reader reader.section

abbrev pub open_wires : Section → ℕ
open_wires Outside = 0
open_wires (InType open_type) = 0
open_wires (InBlock block) = length block.wires
open_wires (AfterTop top) = 0

-- the number of closed types and blocks and of wires of the open block
abbrev pub reader_size : Reader → ℕ
reader_size reader = length reader.types + length reader.blocks + open_wires reader.section
