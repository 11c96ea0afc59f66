-- The given copies build the device of the copies.
use Rattle.std.proofs.Common.{◌≡◌, ℕ, ◌-◌, ◌≤◌, inl, inr, true, List, [], ◌∷◌, map, length, Ok, refl, sym, ap, subst, ◌∙◌, arith}
use Rattle.std.specs.Prelude.{nat_lt}
use Rattle.std.specs.List.{flat_map, list_all}
use Rattle.std.proofs.lemmas.List.{length-append, length-map, length-take, length-drop, map-append}
use Rattle.std.proofs.lemmas.List.Folds.{list_all-append, list_all-map}
use Rattle.std.proofs.lemmas.Simd.{map-map}
use Rattle.text_rules.specs.Expected.{IsExpectedFault}
use Rattle.text_rules.specs.Names.{Name}
use Rattle.state_rules.proofs.Members.{In}
use Rattle.device_model.specs.declared.component.Component.{Component}
use Rattle.device_model.specs.declared.limits.TheConstants.{PART_LIMIT, WIRE_LIMIT}
use Rattle.device_model.specs.declared.building.BuildError.{BuildError}
use Rattle.device_model.specs.declared.building.BuildError.TheVariants.{Memory as NoMemory}
use Rattle.device_model.specs.TruthTable.{TruthTable}
use Rattle.device_model.specs.Order.{sorted_distinct}
use Rattle.device_model.specs.Gates.{rule}
use Rattle.device_model.specs.Devices.{Device, IsDevice, part_names, takes_ports, has_arity, has_wires}
use Rattle.device_model.specs.Building.{joined, reason, built}
use Rattle.device_model.proofs.Ordered.{Rises, sorted_distinct-is}
use Rattle.device_model.proofs.SortedLists.{itself, Rises-from_names_rise, Rises-unmap, Rises-map}
use Rattle.device_model.proofs.Apart.{repeated-Different, Different-rising}
use Rattle.device_model.proofs.SortedDevices.{component_name, list_all-among, list_all-from_among}
use Rattle.device_model.proofs.BuiltDevices.{named, CanBeBuilt, built-over}
use Rattle.device_model.proofs.CallerLemmas.{only_memory as only_memory_of}
use Rattle.bench_reader.specs.declared.sequential.Sequential.{Sequential}
use Rattle.frame_unroller.specs.Times.{times, wire_at}
use Rattle.frame_unroller.specs.Frames.{inputs, output}
use Rattle.frame_unroller.specs.Diagnosis.{frame_wires}
use Rattle.frame_unroller.specs.Unrolling.{Copy, copies, named_copy, frame_device}
use Rattle.frame_unroller.specs.inner.Copying.{given_copy, AreCopies}
use Rattle.frame_unroller.proofs.Members.{both_pass}
use Rattle.frame_unroller.proofs.Wires.{wires_differ, positions-named, positions-within}
use Rattle.frame_unroller.proofs.Copies.{copy_name, times_in_order, IsCopy, are_copies}

map-same : {A B : Type 0} (f g : A → B) (xs : List A) → ((x : A) → In x xs → f x ≡ g x) → map f xs ≡ map g xs
map-same f g [] h = refl
map-same f g (x ∷ xs) h = λ i. h x (inl refl) i ∷ map-same f g xs (λ y m. h y (inr m)) i

module _ (seq : Sequential) (frames : ℕ) (valid : IsDevice seq.device) where
  abbrev names : List Name
  names = seq.device.wires

  abbrev given : List Name
  given = flat_map (λ t. map (wire_at t) seq.device.wires) (times frames)

  abbrev cs : List Copy
  cs = copies seq frames

  rise : Rises copy_name cs
  rise = times_in_order seq (Rises-unmap component_name seq.device.parts (Rises-from_names_rise (part_names seq.device.parts) valid.parts_rise)) 1 frames

  -- ---- one copy

  module _ (c : Copy) (is : IsCopy seq frames c) where
    parted : (list_all (λ port. nat_lt port (length names)) (inputs c.part) ≡ true) × (list_all (λ port. nat_lt port (length names)) (output c.part) ≡ true)
    parted = both_pass (λ port. nat_lt port (length names)) (length c.part.ports - 1) c.part.ports (list_all-among (has_wires (length names)) seq.device.parts valid.joined c.part is.there)

    named_given : named given (given_copy (length names) c) ≡ named_copy names c
    named_given = grind (arith, is.some, is.order, is.few, parted, map-append, positions-named names frames c.before, positions-named names frames c.now)

    given_wired : has_wires (length given) (given_copy (length names) c) ≡ true
    given_wired = grind (arith, is.some, is.order, is.few, parted, list_all-append, positions-within names frames c.before, positions-within names frames c.now)

    given_long : length (given_copy (length names) c).ports ≡ length c.part.ports
    given_long = grind (arith, length-append, length-map, length-take, length-drop)

    given_arity : has_arity seq.device.tables (given_copy (length names) c) ≡ true
    given_arity = ap (takes_ports seq.device.tables (rule c.part.kind)) given_long ∙ list_all-among (has_arity seq.device.tables) seq.device.parts valid.arities c.part is.there

  -- ---- all copies

  each : (c : Copy) → In c cs → IsCopy seq frames c
  each = are_copies seq frames

  given-parts : map (named given) (map (given_copy (length names)) cs) ≡ map (named_copy names) cs
  given-parts = map-map (named given) (given_copy (length names)) cs ∙ map-same (λ c. named given (given_copy (length names) c)) (named_copy names) cs (λ c m. named_given c (each c m))

  in_order : sorted_distinct component_name (map (joined (frame_wires seq frames)) (map (named_copy names) cs)) ≡ map (λ c. joined (frame_wires seq frames) (named_copy names c)) cs
  in_order =
      let make : Copy → Component = λ c. joined (frame_wires seq frames) (named_copy names c) in
      let rises : Rises itself (map component_name (map make cs)) = subst (Rises itself) (sym (map-map component_name make cs)) (Rises-map copy_name cs rise) in
      ap (sorted_distinct component_name) (map-map (joined (frame_wires seq frames)) (named_copy names) cs)
      ∙ sorted_distinct-is component_name (map make cs) (map make cs) (Rises-unmap component_name (map make cs) rises) (λ z m. m) (λ z m. m)

  module _ (few_parts : length cs ≤ PART_LIMIT) (few_wires : length given ≤ WIRE_LIMIT) where
    can_be_built : CanBeBuilt (map (given_copy (length names)) cs) given seq.device.tables
    can_be_built = record {
      few_parts = omega (arith, length-map cs (given_copy (length names)), few_parts);
      few_wires = few_wires;
      parts_once = grind (arith, map-map, repeated-Different, Different-rising, Rises-map, rise);
      wires_once = repeated-Different given (wires_differ names 1 frames (Rises-from_names_rise names valid.wires_rise));
      arities = grind (arith, list_all-map, list_all-from_among, given_arity, each);
      wired = grind (arith, list_all-map, list_all-from_among, given_wired, each);
    }

    built-frames : built (map (given_copy (length names)) cs) given seq.device.tables ≡ Ok (frame_device seq frames)
    built-frames = built-over (map (given_copy (length names)) cs) given seq.device.tables can_be_built ∙ rw (given-parts, in_order)

  module _ (parts : List Component) (places : List ℕ) (wires : List Name) (tables : List TruthTable) (are : AreCopies seq frames parts places wires)
      (few_parts : length parts ≤ PART_LIMIT) (few_wires : length wires ≤ WIRE_LIMIT) (t : tables ≡ seq.device.tables) where
    built-here : built parts wires tables ≡ Ok (frame_device seq frames)
    built-here = (λ i. built (are.parts_are i) (are.wires_are i) (t i))
        ∙ built-frames (omega (arith, few_parts, ap length are.parts_are, length-map cs (given_copy (length names)))) (omega (arith, few_wires, ap length are.wires_are))

    pub device_made : (device : Device) → built parts wires tables ≡ Ok device → device ≡ frame_device seq frames
    device_made device h = let both = sym built-here ∙ h in cc

    -- The only error is lack of memory.
    pub only_memory : (error : BuildError) → IsExpectedFault (reason error) (built parts wires tables) → error ≡ NoMemory
    only_memory = only_memory_of parts wires tables _ built-here
