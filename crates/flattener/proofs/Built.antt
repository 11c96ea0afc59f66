-- The parts and wires of a design build its device.
use Rattle.std.proofs.Common.{◌≡◌, ◌≤◌, true, List, [], ◌∷◌, ◌++◌, map, length, get_or, take, drop, None, Ok, Err, refl, sym, ap, ◌∙◌, arith}
use Rattle.std.specs.List.{list_all, flat_map}
use Rattle.std.proofs.lemmas.List.{length-map, append_assoc, take-append-drop}
use Rattle.std.proofs.lemmas.Simd.{map-map}
use Rattle.text_rules.specs.Expected.{IsExpectedFault}
use Rattle.text_rules.specs.Names.{Name}
use Rattle.state_rules.specs.Values.{values}
use Rattle.state_rules.proofs.Values.{values-at}
use Rattle.device_model.specs.declared.component.Component.{Component}
use Rattle.device_model.specs.declared.limits.TheConstants.{PART_LIMIT, WIRE_LIMIT}
use Rattle.device_model.specs.declared.building.BuildError.{BuildError}
use Rattle.device_model.specs.declared.building.BuildError.TheVariants.{Memory as NoMemory}
use Rattle.device_model.specs.TruthTable.{TruthTable}
use Rattle.device_model.specs.Devices.{Device, part_names, has_arity}
use Rattle.device_model.specs.Building.{NamedPart, reason, repeated, built}
use Rattle.device_model.proofs.BuiltDevices.{built-over}
use Rattle.device_model.proofs.Apart.{repeated-Different}
use Rattle.device_model.proofs.CallerLemmas.{only_memory as only_memory_of}
use Rattle.component_lang.specs.Designs.{Design, is_design}
use Rattle.flattener.specs.declared.flattening.FlattenError.{FlattenError}
use Rattle.flattener.specs.Flat.{flat_device, flattened, told}
use Rattle.flattener.specs.inner.Counting.{counts_of_design, refusal}
use Rattle.flattener.specs.inner.Expanding.{IsFlat, shown}
use Rattle.flattener.proofs.Values.{front_fits}
use Rattle.flattener.proofs.Relative.{Parts, Wires, no_names, names_in, names_used}
use Rattle.flattener.proofs.DistinctPaths.{instances-differ, all-wires}
use Rattle.flattener.proofs.Arities.{tables_of, is_fed, instances-fed}
use Rattle.flattener.proofs.ExpandedInstances.{no_block, good_blocks, top_within}
use Rattle.flattener.proofs.Totals.{top_good, top_ports-are, top-shows, wires_are, few_parts, few_wires, flattened-by_counts}

ports_fed : (tables : List TruthTable) (wires : List Name) (parts : List Component) → list_all (is_fed tables) (map (shown wires) parts) ≡ true → list_all (has_arity tables) parts ≡ true
ports_fed tables wires [] h = refl
ports_fed tables wires (p ∷ ps) h = grind (arith, length-map, ports_fed tables wires ps)

module _ (design : Design) (valid : is_design design ≡ true) (passed : refusal (counts_of_design design) ≡ None) (parts : List Component) (wires : List Name) (flat : IsFlat design parts wires) where
  names_are : part_names parts ≡ get_or (values names_in design.blocks) design.top no_names Parts
  names_are = sym (map-map (λ (p : NamedPart). p.name) (shown wires) parts) ∙ ap (map (λ (p : NamedPart). p.name)) flat.parts_are ∙ top-shows design valid Parts

  wires_once : repeated wires ≡ []
  wires_once =
      let good = good_blocks design valid in
      let block = get_or design.blocks design.top no_block in
      let above = values names_in (take design.top design.blocks) in
      let rest = flat_map (λ u. names_used above u Wires) block.parts in
      let at = values-at names_in design.blocks design.top no_block (top_within design valid) no_names in
      let all : wires ≡ block.wires ++ rest =
      flat.wires_are ∙ wires_are design valid ∙ (λ i. top_ports-are design valid i ++ at i Wires)
      ∙ sym (append_assoc (take block.ports block.wires) (drop block.ports block.wires) rest) ∙ ap (λ ns. ns ++ rest) (take-append-drop block.ports block.wires) in
      ap repeated all ∙ repeated-Different _ (all-wires above (λ j. instances-differ design.types (take design.top design.blocks) (front_fits design.types [] design.blocks design.top good) j) design.types (take design.top design.blocks) block (top_good design valid))

  arities : list_all (has_arity (tables_of design.types)) parts ≡ true
  arities = grind (arith, ports_fed, instances-fed)

  many_parts : length parts ≤ PART_LIMIT
  many_parts = let e = length-map parts (shown wires) in let f = ap length flat.parts_are in let g = few_parts design valid passed in omega arith

  many_wires : length wires ≤ WIRE_LIMIT
  many_wires = let f = ap length flat.wires_are in let g = few_wires design valid passed in omega arith

  -- Nothing is refused.
  built-flat : built parts wires (tables_of design.types) ≡ Ok (flat_device design)
  built-flat = grind (arith, built-over, many_parts, many_wires, wires_once, arities, names_are, repeated-Different, instances-differ, good_blocks)

  module _ (tables : List TruthTable) (are : tables ≡ tables_of design.types) where
    built-here : built parts wires tables ≡ Ok (flat_device design)
    built-here = ap (built parts wires) are ∙ built-flat

    pub device_made : (device : Device) → built parts wires tables ≡ Ok device → flattened design ≡ Ok device
    device_made device h = grind (arith, built-here, flattened-by_counts)

    -- The only error is lack of memory.
    pub only_memory : (error : BuildError) → IsExpectedFault (reason error) (built parts wires tables) → error ≡ NoMemory
    only_memory = only_memory_of parts wires tables _ built-here

-- an error of `flattened` is expected
pub told-refusal : (design : Design) (error : FlattenError) → flattened design ≡ Err error → IsExpectedFault (told error) (flattened design)
told-refusal design error h = grind arith
