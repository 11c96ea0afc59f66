-- The meaning of the parts and wires made so far, and how they grow. A port is a position among the wires.
use Rattle.std.specs.Prelude.{◌≡◌, ℕ, ◌+◌, ◌-◌, ◌<◌, ◌≤◌, Bool, true, List, [], ◌∷◌, ◌++◌, map, length, nat_lt, nat_le, slice_index, slice_index_or, if◌then◌else◌}
use Rattle.std.specs.List.{list_all}
use Rattle.text_rules.specs.Names.{Name}
use Rattle.state_rules.specs.Values.{values}
use Rattle.device_model.specs.declared.component.Component.{Component}
use Rattle.device_model.specs.declared.limits.TheConstants.{WIRE_LIMIT, NAME_LIMIT}
use Rattle.device_model.specs.Devices.{has_wires}
use Rattle.device_model.specs.Building.{NamedPart}
use Rattle.component_lang.specs.declared.design.Block.{Block}
use Rattle.component_lang.specs.Designs.{Design, is_design}
use Rattle.flattener.specs.Flat.{Content, Instance, nothing, instance, top_content, flat_wires}

-- the wire at a position
abbrev pub wire_at : List Name → ℕ → Name
wire_at wires position = slice_index_or wires position []

-- a part with the names of the wires at its ports
abbrev pub shown : List Name → Component → NamedPart
shown wires part = record { name = part.name; kind = part.kind; wires = map (wire_at wires) part.ports }

-- whether each port is the position of a wire
abbrev pub are_joined : List Name → List Component → Bool
are_joined wires parts = list_all (has_wires (length wires)) parts

-- whether each position is below `wires`
abbrev pub are_within : ℕ → List ℕ → Bool
are_within wires positions = list_all (λ position. nat_lt position wires) positions

-- the position of a block's wire: `passed` has those of the passed ones, and its own are from `start` on
abbrev pub position_of : List ℕ → ℕ → ℕ → ℕ
position_of passed start wire = if nat_lt wire (length passed) then slice_index passed wire else start + (wire - length passed)

-- the instance of the block at `place`
abbrev pub instance_at : Design → ℕ → Instance
instance_at design place = slice_index_or (values instance design.blocks) place nothing

-- the number of ports of the block at `place`
abbrev pub ports_at : Design → ℕ → ℕ
ports_at design place = slice_index (map (λ (block : Block). block.ports) design.blocks) place

abbrev pub paths_of : Content → List Name
paths_of content = map (λ (part : NamedPart). part.name) content.parts ++ (content.wires ++ content.instances)

-- whether no path is longer than a name may be
abbrev pub are_short : List Name → Bool
are_short names = list_all (λ (name : Name). nat_le (length name) NAME_LIMIT) names

-- what precedes each name in the instance at `path`
abbrev pub prefix_of : Name → Name
prefix_of [] = []
prefix_of (b ∷ path) = (b ∷ path) ++ 46 ∷ []

abbrev pub behind : Name → Name → Name
behind prefix name = prefix ++ name

-- The block at `place` can be expanded at `path`: a wire is passed for each port, and the content keeps the limits.
pub record CanExpand (design : Design) (place : ℕ) (path : Name) (passed : List ℕ) (wires : List Name) : Type 0 where
  pub valid : is_design design ≡ true
  pub there : place < length design.blocks
  pub ports : length passed ≡ ports_at design place
  pub within : are_within (length wires) passed ≡ true
  pub few : length wires + length (instance_at design place path (map (wire_at wires) passed)).wires ≤ WIRE_LIMIT
  pub short : are_short (paths_of (instance_at design place path (map (wire_at wires) passed))) ≡ true

-- `more_parts` and `more_wires` are `parts` and `wires` with `content` after them
pub record Grows (parts : List Component) (wires : List Name) (content : Content) (more_parts : List Component) (more_wires : List Name) : Type 0 where
  pub wires_grow : more_wires ≡ wires ++ content.wires
  pub parts_grow : map (shown more_wires) more_parts ≡ map (shown wires) parts ++ content.parts
  pub joined : are_joined more_wires more_parts ≡ true

-- the parts and wires of a design's device; each port is a position
pub record IsFlat (design : Design) (parts : List Component) (wires : List Name) : Type 0 where
  pub wires_are : wires ≡ flat_wires design
  pub parts_are : map (shown wires) parts ≡ (top_content design).parts
  pub joined : are_joined wires parts ≡ true
