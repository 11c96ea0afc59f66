-- The device that a file describes, or the output that refuses a file that describes none.
use Rattle.std.specs.Prelude.{ℕ, List, Result, codes, if◌then◌else◌}
use Rattle.std.specs.Result.{result_map_both}
use Rattle.device_model.specs.declared.limits.TheConstants.{NAME_LIMIT, PART_LIMIT, WIRE_LIMIT}
use Rattle.device_model.specs.Devices.{Device}
use Rattle.bench_reader.specs.Netlists.{netlist}
use Rattle.bench_reader.specs.Faults.{Fault as NetlistFault, fault_row as netlist_row}
use Rattle.component_lang.specs.Reading.{Fault as DesignFault, design}
use Rattle.component_lang.specs.Faults.{fault_row as design_row}
use Rattle.flattener.specs.declared.flattening.FlattenError.{FlattenError}
use Rattle.flattener.specs.declared.flattening.FlattenError.TheVariants.{TooManyParts, TooManyWires, TooManyBlocks, PathTooLong, Memory}
use Rattle.flattener.specs.declared.flattening.TheConstants.{INSTANCE_LIMIT}
use Rattle.flattener.specs.Flat.{flattened}
use Rattle.diag_edge.specs.ErrorLines.{fault_line, above_line}
use Rattle.device_files.specs.Paths.{ends_in}
use Rattle.device_files.specs.declared.status.Status.TheVariants.{Refused}
use Rattle.device_files.specs.Output.{Output, says, no_memory_line, result_and_then}

abbrev pub netlist_line : NetlistFault → List ℕ
netlist_line fault = fault_line fault.line (netlist_row fault.what).0 (netlist_row fault.what).1

abbrev pub design_line : DesignFault → List ℕ
design_line fault = fault_line fault.line (design_row fault.what).0 (design_row fault.what).1

abbrev pub flatten_line : FlattenError → List ℕ
flatten_line (TooManyParts count) = above_line (codes "parts") count PART_LIMIT
flatten_line (TooManyWires count) = above_line (codes "wires") count WIRE_LIMIT
flatten_line (TooManyBlocks count) = above_line (codes "blocks") count INSTANCE_LIMIT
flatten_line (PathTooLong count) = above_line (codes "path") count NAME_LIMIT
flatten_line Memory = no_memory_line

-- what a file gives, or the line that refuses it
abbrev pub or_line : {A F : Type 0} → (F → List ℕ) → Result A F → Result A Output
or_line line found = result_map_both (λ given. given) (λ fault. says (line fault) Refused) found

-- the device that a text describes, by the path of its file
abbrev pub described : List ℕ → List ℕ → Result Device Output
described path text = if ends_in (codes ".dev") path then result_and_then (λ made. or_line flatten_line (flattened made)) (or_line design_line (design text)) else or_line netlist_line (netlist text)
