-- Designs: types of parts, and blocks of parts, wires and instances of the blocks above.
use Rattle.std.specs.Prelude.{ℕ, ◌-◌, Bool, true, false, not, ◌&&◌, List, [], ◌∷◌, ◌++◌, map, length, ◌==◌, nat_lt, nat_le, slice_get}
use Rattle.std.specs.List.{list_all, list_any}
use Rattle.std.specs.Option.{option_map_or}
use Rattle.text_rules.specs.Names.{Name, is_short_name}
use Rattle.device_model.specs.Gates.{rule, takes_inputs}
use Rattle.device_model.specs.Building.{repeated}
use Rattle.component_lang.specs.declared.design.UsedKind.{UsedKind}
use Rattle.component_lang.specs.declared.design.UsedKind.TheVariants.{Gate, Shape as OfShape, Block as OfBlock}
use Rattle.component_lang.specs.declared.design.Used.{Used}
use Rattle.component_lang.specs.declared.design.Shape.{Shape}
use Rattle.component_lang.specs.declared.design.Block.{Block}

-- The kind of a part is a gate or the place of a type or a block. `top` is the place of a block.
pub record Design : Type 0 where
  pub types : List Shape
  pub blocks : List Block
  pub top : ℕ

-- whether a word is 1 to 64 name bytes without a dot
abbrev pub is_plain_name : Name → Bool
is_plain_name word = is_short_name word && not (list_any (λ b. b == 46) word)

-- whether no name occurs twice
abbrev pub are_distinct : List Name → Bool
are_distinct names = length (repeated names) == 0

-- the names of `parts`
abbrev pub used_names : List Used → List Name
used_names parts = map (λ (u : Used). u.name) parts

-- whether a kind takes `args` arguments: the inputs of a gate, then its output; or the ports of a type or a block
abbrev pub takes_args : List Shape → List Block → UsedKind → ℕ → Bool
takes_args types blocks (Gate kind) args = takes_inputs (rule kind) (args - 1)
takes_args types blocks (OfShape place) args = option_map_or (λ (shape : Shape). shape.table.ports == args) (slice_get types place) false
takes_args types blocks (OfBlock place) args = option_map_or (λ (block : Block). block.ports == args) (slice_get blocks place) false

-- whether a part fits these types, the blocks above and a block with `wires` wires
abbrev pub is_used : List Shape → List Block → ℕ → Used → Bool
is_used types above wires used =
    is_plain_name used.name
    && (takes_args types above used.kind (length used.args) && list_all (λ wire. nat_lt wire wires) used.args)

-- Whether names are plain, no two wires and no two parts share one, the ports are the first wires, and each part fits.
abbrev pub is_block : List Shape → List Block → Block → Bool
is_block types above block =
    (list_all is_plain_name block.wires && are_distinct block.wires)
    && (nat_le block.ports (length block.wires)
    && (list_all (is_used types above (length block.wires)) block.parts && are_distinct (used_names block.parts)))

-- whether each block fits and uses only blocks before it
abbrev pub are_blocks : List Shape → List Block → List Block → Bool
are_blocks types above [] = true
are_blocks types above (block ∷ blocks) = is_block types above block && are_blocks types (above ++ block ∷ []) blocks

-- what is true of every design
abbrev pub is_design : Design → Bool
is_design design = are_blocks design.types [] design.blocks && nat_lt design.top (length design.blocks)
