-- The counts of an instance of each block. They do not depend on its path or on the wires passed to it. They stop at
-- 2 ^ 64 - 1.
use Rattle.std.specs.Prelude.{ℕ, ◌+◌, max, List, map, length, drop, Option, Some, None, fold, nat_lt, nat_eq, slice_index_or, if◌then◌else◌}
use Rattle.text_rules.specs.Names.{Name}
use Rattle.state_rules.specs.Values.{values}
use Rattle.device_model.specs.declared.limits.TheConstants.{PART_LIMIT, WIRE_LIMIT, NAME_LIMIT}
use Rattle.component_lang.specs.declared.design.UsedKind.{UsedKind}
use Rattle.component_lang.specs.declared.design.UsedKind.TheVariants.{Gate, Shape as OfShape, Block as OfBlock}
use Rattle.component_lang.specs.declared.design.Used.{Used}
use Rattle.component_lang.specs.declared.design.Block.{Block}
use Rattle.component_lang.specs.Designs.{Design}
use Rattle.flattener.specs.declared.counting.Counts.{Counts}
use Rattle.flattener.specs.declared.flattening.FlattenError.{FlattenError}
use Rattle.flattener.specs.declared.flattening.FlattenError.TheVariants.{TooManyParts, TooManyWires, TooManyBlocks, PathTooLong}
use Rattle.flattener.specs.declared.flattening.TheConstants.{INSTANCE_LIMIT}
use Rattle.flattener.specs.Flat.{saturated, greatest, top_ports}

abbrev pub no_counts : Counts
no_counts = record { parts = 0; wires = 0; instances = 0; longest = 0 }

-- the length in bytes of the longest name
abbrev pub longest_of : List Name → ℕ
longest_of names = greatest (map (λ (name : Name). length name) names)

-- the counts of wires alone
abbrev pub counts_of_wires : List Name → Counts
counts_of_wires wires = record { parts = 0; wires = saturated (length wires); instances = 0; longest = saturated (longest_of wires) }

abbrev pub added : Counts → Counts → Counts
added a b = record {
  parts = saturated (a.parts + b.parts);
  wires = saturated (a.wires + b.wires);
  instances = saturated (a.instances + b.instances);
  longest = max a.longest b.longest;
}

abbrev pub counts_of_part : Name → Counts
counts_of_part name = record { parts = 1; wires = 0; instances = 0; longest = length name }

-- the longest path from a name of `name` bytes on, if the longest below it is `longest` (0 if none)
abbrev pub below_name : ℕ → ℕ → ℕ
below_name name longest = if nat_eq longest 0 then name else saturated (name + 1 + longest)

abbrev pub counts_of_instance : Name → Counts → Counts
counts_of_instance name inner = record {
  parts = inner.parts;
  wires = inner.wires;
  instances = saturated (inner.instances + 1);
  longest = below_name (length name) inner.longest;
}

abbrev pub counts_of_kind : List Counts → Name → UsedKind → Counts
counts_of_kind above name (Gate gate) = counts_of_part name
counts_of_kind above name (OfShape place) = counts_of_part name
counts_of_kind above name (OfBlock place) = counts_of_instance name (slice_index_or above place no_counts)

abbrev pub counts_of_used : List Counts → Used → Counts
counts_of_used above used = counts_of_kind above used.name used.kind

-- the counts of an instance of a block, from those of the blocks before
abbrev pub counts_of_block : Block → List Counts → Counts
counts_of_block block above =
    fold (λ counts used. added counts (counts_of_used above used)) (counts_of_wires (drop block.ports block.wires)) block.parts

-- the counts of the device: the ports of the top are wires too
abbrev pub counts_of_design : Design → Counts
counts_of_design design =
    added (counts_of_wires (top_ports design)) (slice_index_or (values counts_of_block design.blocks) design.top no_counts)

-- the first limit that is exceeded
abbrev pub refusal : Counts → Option FlattenError
refusal counts =
    if nat_lt PART_LIMIT counts.parts then Some (TooManyParts counts.parts)
    else if nat_lt WIRE_LIMIT counts.wires then Some (TooManyWires counts.wires)
    else if nat_lt INSTANCE_LIMIT counts.instances then Some (TooManyBlocks counts.instances)
    else if nat_lt NAME_LIMIT counts.longest then Some (PathTooLong counts.longest)
    else None
