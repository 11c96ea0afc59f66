-- Over a graph that is true if bits fit, every script has the replies and moves that it has over what fits; so for devices.
use Rattle.std.proofs.Common.{◌≡◌, ℕ, Bool, List, length}
use Rattle.text_rules.specs.Names.{Name}
use Rattle.state_rules.specs.declared.extras.Extras.{Extras}
use Rattle.state_rules.specs.Systems.{System, with_extras}
use Rattle.state_rules.specs.Graphs.{Graph}
use Rattle.state_rules.specs.GraphsOver.{IsGraphOver}
use Rattle.device_model.specs.Devices.{Device, part_names, part_costs, fits}
use Rattle.device_model.specs.Diagnosis.{fitting_system, device_system}
use Rattle.session_rules.specs.Spelling.{IsGraphOf}
use Rattle.session_rules.specs.Sessions.{Table, replies}
use Rattle.session_rules.specs.Moves.{line_moves, script_moves}
use Rattle.session_rules.specs.CaseSizes.{HasCasesOf}
use Rattle.session_rules.specs.GraphSystems.{graph_system, compiled_system}
use Rattle.session_rules.proofs.GraphMeaning.{same_fitting, over_names}
use Rattle.session_rules.proofs.Same.{replies-same, script_moves-same}

-- Both systems have the same names, so the cases of one are those of the other; and their extras are the same.
module _ (parts wires : List Name) (costs : List ℕ) (fits_by : List Bool → List Bool → Bool) (graph : Graph) (is : IsGraphOver (length parts) (length wires) fits_by graph)
    (extras : Extras) (limit : ℕ) (table : Table) (cases : HasCasesOf (fitting_system parts wires costs fits_by) table) (lines : List (List ℕ)) where
  abbrev over_graph : System
  over_graph = with_extras extras (graph_system parts wires costs graph)

  abbrev over_fitting : System
  over_fitting = with_extras extras (fitting_system parts wires costs fits_by)

  pub fitting_replies : replies over_graph limit table lines ≡ replies over_fitting limit table lines
  fitting_replies = replies-same over_graph (fitting_system parts wires costs fits_by).consistent (same_fitting parts wires costs fits_by graph is) limit table lines cases

  pub fitting_moves : script_moves (line_moves over_graph limit) table lines ≡ script_moves (line_moves over_fitting limit) table lines
  fitting_moves = script_moves-same over_graph (fitting_system parts wires costs fits_by).consistent (same_fitting parts wires costs fits_by graph is) limit table lines cases

module _ (device : Device) (graph : Graph) (is : IsGraphOf device graph) (extras : Extras) (limit : ℕ) (table : Table) (cases : HasCasesOf (device_system device) table) (lines : List (List ℕ)) where
  pub graph_replies : replies (with_extras extras (compiled_system device graph)) limit table lines ≡ replies (with_extras extras (device_system device)) limit table lines
  graph_replies = fitting_replies (part_names device.parts) device.wires (part_costs device) (fits device) graph (over_names device graph is) extras limit table cases lines

  pub graph_moves : script_moves (line_moves (with_extras extras (compiled_system device graph)) limit) table lines ≡ script_moves (line_moves (with_extras extras (device_system device)) limit) table lines
  graph_moves = fitting_moves (part_names device.parts) device.wires (part_costs device) (fits device) graph (over_names device graph is) extras limit table cases lines
