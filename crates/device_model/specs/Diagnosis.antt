-- The health states that agree with a case: they fit some bits of the wires.
use Rattle.std.specs.Prelude.{ℕ, Bool, true, ◌&&◌, List, length}
use Rattle.std.specs.List.{list_any}
use Rattle.text_rules.specs.Names.{Name}
use Rattle.state_rules.specs.Bits.{lists_of_bits}
use Rattle.state_rules.specs.Cases.{Case, agrees}
use Rattle.state_rules.specs.Ranking.{passing}
use Rattle.state_rules.specs.Systems.{System, no_extras, open_texts}
use Rattle.device_model.specs.Devices.{Device, fits, part_names, part_costs}

-- whether the state agrees with what is held, and some bits of `wires` wires fit it and agree with what was seen
abbrev pub is_consistent : (List Bool → List Bool → Bool) → ℕ → Case → List Bool → Bool
is_consistent fits_by wires known state =
    agrees known.held state && list_any (λ bits. agrees known.seen bits && fits_by state bits) (lists_of_bits wires)

-- the system of these names and costs in which those states are consistent; it has no extras and fixes no texts
abbrev pub fitting_system : (parts wires : List Name) → List ℕ → (List Bool → List Bool → Bool) → System
fitting_system parts wires costs fits_by = record {
  parts = parts;
  wires = wires;
  costs = costs;
  consistent = λ known. passing (length parts) (is_consistent fits_by (length wires) known);
  extras = no_extras;
  graphs = true;
  texts = open_texts;
}

abbrev pub device_system : Device → System
device_system device = fitting_system (part_names device.parts) device.wires (part_costs device) (fits device)
