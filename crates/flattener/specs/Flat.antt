-- The device of a design. Its parts, wires and instances of blocks have paths as names.
use Rattle.std.specs.Prelude.{ℕ, ◌-◌, ◌^◌, min, max, List, [], ◌∷◌, ◌++◌, map, length, take, drop, Option, Some, None, Result, Ok, Err, nat_lt, slice_get, slice_index_or, if◌then◌else◌}
use Rattle.std.specs.List.{flat_map}
use Rattle.std.specs.Option.{option_map_or}
use Rattle.text_rules.specs.Names.{Name}
use Rattle.state_rules.specs.Values.{values}
use Rattle.device_model.specs.declared.gates.Kind.{Kind}
use Rattle.device_model.specs.declared.gates.Kind.TheVariants.{Table}
use Rattle.device_model.specs.declared.limits.TheConstants.{PART_LIMIT, WIRE_LIMIT, NAME_LIMIT}
use Rattle.device_model.specs.Devices.{Device}
use Rattle.device_model.specs.Building.{NamedPart, device_over}
use Rattle.component_lang.specs.declared.design.UsedKind.{UsedKind}
use Rattle.component_lang.specs.declared.design.UsedKind.TheVariants.{Gate, Shape as OfShape, Block as OfBlock}
use Rattle.component_lang.specs.declared.design.Used.{Used}
use Rattle.component_lang.specs.declared.design.Shape.{Shape}
use Rattle.component_lang.specs.declared.design.Block.{Block}
use Rattle.component_lang.specs.Designs.{Design}
use Rattle.flattener.specs.declared.flattening.FlattenError.{FlattenError}
use Rattle.flattener.specs.declared.flattening.FlattenError.TheVariants.{TooManyParts, TooManyWires, TooManyBlocks, PathTooLong, Memory}
use Rattle.flattener.specs.declared.flattening.TheConstants.{INSTANCE_LIMIT}

-- what is in an instance, at any depth: parts, wires that are not passed from above, and instances
pub record Content : Type 0 where
  pub parts : List NamedPart
  pub wires : List Name
  pub instances : List Name

-- the content of an instance, from its path and the wires that are passed to it
abbrev pub Instance : Type 0
Instance = Name → List Name → Content

abbrev pub nothing : Instance
nothing path passed = record { parts = []; wires = []; instances = [] }

-- a name in the instance at `path`; the path of the top is empty
abbrev pub below : Name → Name → Name
below [] name = name
below (b ∷ path) name = (b ∷ path) ++ 46 ∷ name

abbrev pub one_part : Name → Kind → List Name → Content
one_part path kind wires = record { parts = record { name = path; kind = kind; wires = wires } ∷ []; wires = []; instances = [] }

-- the content of a part of a block; `above` are the instances of the blocks before
abbrev pub kind_content : List Instance → UsedKind → Instance
kind_content above (Gate gate) path passed = one_part path gate passed
kind_content above (OfShape place) path passed = one_part path (Table place) passed
kind_content above (OfBlock place) path passed =
    let inner = slice_index_or above place nothing path passed in record inner { instances = path ∷ inner.instances }

abbrev pub used_content : List Instance → Name → List Name → Used → Content
used_content above path wires used =
    kind_content above used.kind (below path used.name) (map (λ wire. slice_index_or wires wire []) used.args)

-- an instance of a block: its wires are those passed to it, then its own
abbrev pub instance : Block → List Instance → Instance
instance block above path passed =
    let own = map (below path) (drop block.ports block.wires) in
    let used = map (used_content above path (passed ++ own)) block.parts in
    record {
      parts = flat_map (λ (c : Content). c.parts) used;
      wires = own ++ flat_map (λ (c : Content). c.wires) used;
      instances = flat_map (λ (c : Content). c.instances) used;
    }

abbrev pub top_ports : Design → List Name
top_ports design = option_map_or (λ (block : Block). take block.ports block.wires) (slice_get design.blocks design.top) []

-- the content of the top
abbrev pub top_content : Design → Content
top_content design = slice_index_or (values instance design.blocks) design.top nothing [] (top_ports design)

-- the wires of the device: the ports of the top and the wires of its content
abbrev pub flat_wires : Design → List Name
flat_wires design = top_ports design ++ (top_content design).wires

abbrev pub flat_device : Design → Device
flat_device design = device_over (top_content design).parts (flat_wires design) (map (λ (s : Shape). s.table) design.types)

abbrev pub greatest : List ℕ → ℕ
greatest [] = 0
greatest (n ∷ ns) = max n (greatest ns)

-- the length in bytes of the longest path of a part, a wire or an instance
abbrev pub longest_path : Design → ℕ
longest_path design =
    let parts = map (λ (part : NamedPart). part.name) (top_content design).parts in
    greatest (map (λ (path : Name). length path) (parts ++ (flat_wires design ++ (top_content design).instances)))

-- a count stops at 2 ^ 64 - 1
abbrev pub saturated : ℕ → ℕ
saturated n = min n (2 ^ 64 - 1)

abbrev pub unless_over : ℕ → ℕ → (ℕ → FlattenError) → Result Device FlattenError → Result Device FlattenError
unless_over limit count error otherwise = if nat_lt limit count then Err (error (saturated count)) else otherwise

-- The device of a design, or the first of these counts that exceeds its limit.
abbrev pub flattened : Design → Result Device FlattenError
flattened design =
    unless_over PART_LIMIT (length (top_content design).parts) TooManyParts
    (unless_over WIRE_LIMIT (length (flat_wires design)) TooManyWires
    (unless_over INSTANCE_LIMIT (length (top_content design).instances) TooManyBlocks
    (unless_over NAME_LIMIT (longest_path design) PathTooLong
    (Ok (flat_device design)))))

-- the refusal of an error; lack of memory is none
abbrev pub told : FlattenError → Option FlattenError
told Memory = None
told error = Some error
