-- The content of an instance by names without its path: the paths in an instance are these names below its path.
use Rattle.std.proofs.Common.{◌≡◌, ℕ, ◌≤◌, true, List, [], ◌∷◌, ◌++◌, map, length, get_or, drop, refl, sym, ap, ◌∙◌, arith}
use Rattle.std.specs.Prelude.{nat_lt, slice_index_or}
use Rattle.std.specs.List.{flat_map, list_all}
use Rattle.std.proofs.lemmas.Bool.{and_parts}
use Rattle.std.proofs.lemmas.List.{map-append}
use Rattle.std.proofs.lemmas.List.Folds.{flat_map-map}
use Rattle.text_rules.specs.Names.{Name}
use Rattle.state_rules.specs.Values.{values}
use Rattle.state_rules.proofs.Lists.{map-flat_map}
use Rattle.device_model.specs.Building.{NamedPart}
use Rattle.component_lang.specs.declared.design.UsedKind.{UsedKind}
use Rattle.component_lang.specs.declared.design.UsedKind.TheVariants.{Gate, Shape as OfShape, Block as OfBlock}
use Rattle.component_lang.specs.declared.design.Used.{Used}
use Rattle.component_lang.specs.declared.design.Shape.{Shape}
use Rattle.component_lang.specs.declared.design.Block.{Block}
use Rattle.component_lang.specs.Designs.{is_plain_name, is_used, is_block, are_blocks, are_distinct, used_names, takes_args}
use Rattle.flattener.specs.Flat.{Content, Instance, nothing, below, kind_content, used_content, instance}
use Rattle.flattener.proofs.Lists.{flat_map_same}
use Rattle.flattener.proofs.PathNames.{Plain, below-below}
use Rattle.flattener.proofs.Values.{values-both}

-- which names of an instance
pub data Which : Type 0 where
  Parts : Which
  Wires : Which
  Instances : Which

abbrev pub names_of : Which → Content → List Name
names_of Parts content = map (λ (p : NamedPart). p.name) content.parts
names_of Wires content = content.wires
names_of Instances content = content.instances

-- the names in an instance, without its path
abbrev pub Inner : Type 0
Inner = Which → List Name

abbrev pub no_names : Inner
no_names which = []

abbrev pub wires_only : List Name → Inner
wires_only wires Parts = []
wires_only wires Wires = wires
wires_only wires Instances = []

abbrev pub own_names : Block → Inner
own_names block = wires_only (drop block.ports block.wires)

-- the names in one part
abbrev pub part_named : Name → Inner
part_named name Parts = name ∷ []
part_named name Wires = []
part_named name Instances = []

abbrev pub instance_named : Name → Inner → Inner
instance_named name inner Parts = map (below name) (inner Parts)
instance_named name inner Wires = map (below name) (inner Wires)
instance_named name inner Instances = name ∷ map (below name) (inner Instances)

abbrev pub kind_names : List Inner → Name → UsedKind → Inner
kind_names above name (Gate gate) = part_named name
kind_names above name (OfShape place) = part_named name
kind_names above name (OfBlock place) = instance_named name (slice_index_or above place no_names)

abbrev pub names_used : List Inner → Used → Inner
names_used above used = kind_names above used.name used.kind

abbrev pub names_in : Block → List Inner → Inner
names_in block above which = own_names block which ++ flat_map (λ used. names_used above used which) block.parts

-- what is known of a part of a block
pub record GoodUsed (types : List Shape) (above : List Block) (wires : ℕ) (used : Used) : Type 0 where
  pub plain : Plain used.name
  pub takes : takes_args types above used.kind (length used.args) ≡ true
  pub within : list_all (λ wire. nat_lt wire wires) used.args ≡ true

pub GoodUsed-from_test : (types : List Shape) (above : List Block) (wires : ℕ) (used : Used) → is_used types above wires used ≡ true → GoodUsed types above wires used
GoodUsed-from_test types above wires used h = grind (arith, and_parts)

-- The names in an instance are `inner` below its path, whatever is passed.
abbrev pub Shows : Inner → Instance → Type 0
Shows inner made = (which : Which) (path : Name) (passed : List Name) → names_of which (made path passed) ≡ map (below path) (inner which)

Shows-nothing : Shows no_names nothing
Shows-nothing given path passed = grind arith

below-twice : (path name : Name) (ns : List Name) → 1 ≤ length name → map (below (below path name)) ns ≡ map (below path) (map (below name) ns)
below-twice path name [] h = refl
below-twice path name (n ∷ ns) h = λ i. below-below path name n h i ∷ below-twice path name ns h i

module _ (inners : List Inner) (mades : List Instance) (h : (j : ℕ) → Shows (get_or inners j no_names) (get_or mades j nothing)) (path : Name) where
  kind-shows : (which : Which) (name : Name) (kind : UsedKind) (passed : List Name) → 1 ≤ length name
      → names_of which (kind_content mades kind (below path name) passed) ≡ map (below path) (kind_names inners name kind which)
  kind-shows which name (Gate gate) passed l = grind arith
  kind-shows which name (OfShape place) passed l = grind arith
  kind-shows Parts name (OfBlock place) passed l = h place Parts (below path name) passed ∙ below-twice path name (get_or inners place no_names Parts) l
  kind-shows Wires name (OfBlock place) passed l = h place Wires (below path name) passed ∙ below-twice path name (get_or inners place no_names Wires) l
  kind-shows Instances name (OfBlock place) passed l =
      ap (λ ns. below path name ∷ ns) (h place Instances (below path name) passed ∙ below-twice path name (get_or inners place no_names Instances) l)

  all-show : (types : List Shape) (above : List Block) (count : ℕ) (which : Which) (wires : List Name) (parts : List Used) → list_all (is_used types above count) parts ≡ true
      → flat_map (λ used. names_of which (used_content mades path wires used)) parts ≡ map (below path) (flat_map (λ used. names_used inners used which) parts)
  all-show types above count which wires parts good =
      flat_map_same (is_used types above count) (λ used. names_of which (used_content mades path wires used)) (λ used. map (below path) (names_used inners used which))
      (λ used t. kind-shows which used.name used.kind _ (GoodUsed-from_test types above count used t).plain.some) parts good
      ∙ sym (map-flat_map (below path) (λ used. names_used inners used which) parts)

-- what is known of a block
pub record GoodBlock (types : List Shape) (above : List Block) (block : Block) : Type 0 where
  pub plain : list_all is_plain_name block.wires ≡ true
  pub wires_differ : are_distinct block.wires ≡ true
  pub ports_first : block.ports ≤ length block.wires
  pub used : list_all (is_used types above (length block.wires)) block.parts ≡ true
  pub parts_differ : are_distinct (used_names block.parts) ≡ true

pub GoodBlock-from_test : (types : List Shape) (above : List Block) (block : Block) → is_block types above block ≡ true → GoodBlock types above block
GoodBlock-from_test types above block h = grind arith

-- the names in an instance are its own wires and those in its parts
pub names-instance : (which : Which) (block : Block) (mades : List Instance) (path : Name) (passed : List Name)
    → names_of which (instance block mades path passed)
    ≡ map (below path) (own_names block which) ++ flat_map (λ used. names_of which (used_content mades path (passed ++ map (below path) (drop block.ports block.wires)) used)) block.parts
names-instance Parts block mades path passed = grind (arith, map-flat_map, flat_map-map)
names-instance Wires block mades path passed = grind (arith, flat_map-map)
names-instance Instances block mades path passed = grind (arith, flat_map-map)

Shows-instance : (types : List Shape) (above : List Block) (block : Block) (inners : List Inner) (mades : List Instance) → is_block types above block ≡ true
    → ((j : ℕ) → Shows (get_or inners j no_names) (get_or mades j nothing)) → Shows (names_in block inners) (instance block mades)
Shows-instance types above block inners mades good h which path passed =
    names-instance which block mades path passed
    ∙ ap (λ ns. map (below path) (own_names block which) ++ ns)
    (all-show inners mades h path types above (length block.wires) which _ block.parts (GoodBlock-from_test types above block good).used)
    ∙ sym (map-append (below path) (own_names block which) (flat_map (λ used. names_used inners used which) block.parts))

-- The paths in an instance are its block's names below its path.
pub instances-show : (types : List Shape) (blocks : List Block) → are_blocks types [] blocks ≡ true
    → (j : ℕ) → Shows (get_or (values names_in blocks) j no_names) (get_or (values instance blocks) j nothing)
instances-show types blocks good j =
    values-both types names_in instance no_names nothing Shows Shows-nothing (Shows-instance types) blocks good j
