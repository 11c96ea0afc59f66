-- The content of the top, and the first limit that it exceeds.
use Rattle.std.proofs.Common.{◌≡◌, ℕ, zero, suc, ◌+◌, ◌≤◌, true, List, [], ◌∷◌, ◌++◌, map, length, get_or, take, drop, Option, Some, None, Result, Ok, Err, refl, sym, ap, subst, ◌∙◌, arith}
use Rattle.std.specs.Prelude.{max, nat_lt, nat_le}
use Rattle.std.specs.List.{range_with_len}
use Rattle.std.specs.Option.{option_map_or}
use Rattle.std.proofs.lemmas.Bool.{lt-ltb, le-leb, and_from}
use Rattle.std.proofs.lemmas.List.FromFn.{length-range_with_len}
use Rattle.std.proofs.lemmas.List.{get_or_at, append_assoc, take-append-drop, length-map, map-id, length-append, length-take-le}
use Rattle.text_rules.specs.Names.{Name}
use Rattle.state_rules.specs.Values.{values}
use Rattle.device_model.specs.declared.component.Component.{Component}
use Rattle.device_model.specs.declared.limits.TheConstants.{PART_LIMIT, WIRE_LIMIT, NAME_LIMIT}
use Rattle.device_model.specs.Devices.{Device}
use Rattle.device_model.specs.Building.{NamedPart}
use Rattle.component_lang.specs.declared.design.Block.{Block}
use Rattle.component_lang.specs.Designs.{Design, is_design, are_blocks}
use Rattle.flattener.specs.declared.counting.Counts.{Counts}
use Rattle.flattener.specs.declared.flattening.FlattenError.{FlattenError}
use Rattle.flattener.specs.declared.flattening.FlattenError.TheVariants.{TooManyParts, TooManyWires, TooManyBlocks, PathTooLong}
use Rattle.flattener.specs.declared.flattening.TheConstants.{INSTANCE_LIMIT}
use Rattle.flattener.specs.Flat.{top_ports, top_content, flat_wires, flat_device, longest_path, saturated, unless_over, flattened}
use Rattle.flattener.specs.inner.Counting.{no_counts, longest_of, counts_of_wires, counts_of_block, counts_of_design, refusal}
use Rattle.flattener.specs.inner.Expanding.{CanExpand, Grows, IsFlat, wire_at, are_within, are_short, instance_at, ports_at}
use Rattle.flattener.proofs.PathNames.{AllSome, AllSome-left, AllSome-plain, longest-append}
use Rattle.flattener.proofs.Relative.{Which, Parts, Wires, Instances, names_of, Inner, no_names, wires_only, names_in, GoodBlock, instances-show}
use Rattle.flattener.proofs.Counted.{Counted, longest_in, joined, Counted-wires, Counted-added, blocks-counted}
use Rattle.flattener.proofs.ExpandedInstances.{no_block, good_block, good_blocks, top_within, ports_there, got, short_all}

-- ---- places from 0 on

pub range_within : (a n m : ℕ) → a + n ≤ m → are_within m (range_with_len a n) ≡ true
range_within a zero m l = refl
range_within a (suc n) m l = and_from (nat_lt a m) _ (lt-ltb a m (omega arith)) (range_within (a + 1) n m (omega arith))

wires_from : (front names : List Name) (a : ℕ) → a ≡ length front → map (wire_at (front ++ names)) (range_with_len a (length names)) ≡ names
wires_from front [] a e = refl
wires_from front (n ∷ names) a e =
    let more = append_assoc front (n ∷ []) names in
    (λ i. get_or_at front n names [] a (sym e) i ∷ map (wire_at (sym more i)) (range_with_len (a + 1) (length names)))
    ∙ ap (λ ns. n ∷ ns) (wires_from (front ++ n ∷ []) names (a + 1) (let f = length-append front (n ∷ []) in omega arith))

-- each name is at its place
pub wires_all : (names : List Name) → map (wire_at names) (range_with_len 0 (length names)) ≡ names
wires_all names = wires_from [] names 0 refl

-- ---- limits

pub record Allowed (counts : Counts) : Type 0 where
  pub parts : counts.parts ≤ PART_LIMIT
  pub wires : counts.wires ≤ WIRE_LIMIT
  pub instances : counts.instances ≤ INSTANCE_LIMIT
  pub longest : counts.longest ≤ NAME_LIMIT

pub Allowed-from_refusal : (counts : Counts) → refusal counts ≡ None → Allowed counts
Allowed-from_refusal counts h = grind arith

-- a device, or why there is none
abbrev pub unless_refused : Device → Option FlattenError → Result Device FlattenError
unless_refused device None = Ok device
unless_refused device (Some error) = Err error

pub limits : (device : Device) (counts : Counts) (parts wires instances longest : ℕ) → counts.parts ≡ saturated parts → counts.wires ≡ saturated wires → counts.instances ≡ saturated instances → counts.longest ≡ saturated longest
    → unless_over PART_LIMIT parts TooManyParts (unless_over WIRE_LIMIT wires TooManyWires (unless_over INSTANCE_LIMIT instances TooManyBlocks (unless_over NAME_LIMIT longest PathTooLong (Ok device))))
    ≡ unless_refused device (refusal counts)
limits device counts parts wires instances longest a b c d = grind arith

-- ---- short paths

short_from_longest : (names : List Name) → longest_of names ≤ NAME_LIMIT → are_short names ≡ true
short_from_longest [] h = refl
short_from_longest (n ∷ names) h = and_from (nat_le (length n) NAME_LIMIT) (are_short names) (le-leb (length n) NAME_LIMIT (omega arith)) (short_from_longest names (omega arith))

-- ---- the top

module _ (design : Design) (valid : is_design design ≡ true) where
  good : are_blocks design.types [] design.blocks ≡ true
  good = good_blocks design valid

  pub top_good : GoodBlock design.types (take design.top design.blocks) (get_or design.blocks design.top no_block)
  top_good = good_block design.types design.blocks good design.top (top_within design valid)

  pub top_ports-are : top_ports design ≡ take (get_or design.blocks design.top no_block).ports (get_or design.blocks design.top no_block).wires
  top_ports-are = ap (λ block. option_map_or (λ (b : Block). take b.ports b.wires) block []) (got design.blocks design.top (top_within design valid))

  abbrev pub inner : Inner
  inner = get_or (values names_in design.blocks) design.top no_names

  pub top-shows : (which : Which) → names_of which (top_content design) ≡ inner which
  top-shows which = instances-show design.types design.blocks good design.top which [] (top_ports design) ∙ map-id (inner which)

  abbrev all : Inner
  all = joined (wires_only (top_ports design)) inner

  top-counted : Counted (counts_of_design design) all
  top-counted =
      let block = get_or design.blocks design.top no_block in
      let some = AllSome-left (take block.ports block.wires) (drop block.ports block.wires) (subst AllSome (sym (take-append-drop block.ports block.wires)) (AllSome-plain block.wires top_good.plain)) in
      Counted-added (counts_of_wires (top_ports design)) (get_or (values counts_of_block design.blocks) design.top no_counts) (wires_only (top_ports design)) inner
      (Counted-wires (top_ports design) (subst AllSome (sym top_ports-are) some)) (blocks-counted design.types design.blocks good design.top)

  pub many_parts : length (top_content design).parts ≡ length (inner Parts)
  many_parts = sym (length-map (top_content design).parts (λ (p : NamedPart). p.name)) ∙ ap length (top-shows Parts)

  pub wires_are : flat_wires design ≡ top_ports design ++ inner Wires
  wires_are = ap (λ ns. top_ports design ++ ns) (top-shows Wires)

  longest_is : longest_path design ≡ longest_in all
  longest_is =
      (λ i. longest_of (top-shows Parts i ++ (wires_are i ++ top-shows Instances i)))
      ∙ longest-append (inner Parts) ((top_ports design ++ inner Wires) ++ inner Instances)
      ∙ ap (max (longest_of (inner Parts))) (longest-append (top_ports design ++ inner Wires) (inner Instances))

  -- The result is the first limit that the counts exceed, or the device.
  pub flattened-by_counts : flattened design ≡ unless_refused (flat_device design) (refusal (counts_of_design design))
  flattened-by_counts =
      limits (flat_device design) (counts_of_design design) (length (top_content design).parts) (length (flat_wires design)) (length (top_content design).instances) (longest_path design)
      (top-counted.parts ∙ ap saturated (sym many_parts)) (top-counted.wires ∙ ap saturated (sym (ap length wires_are)))
      (top-counted.instances ∙ ap saturated (sym (ap length (top-shows Instances)))) (top-counted.longest ∙ ap saturated (sym longest_is))

  module _ (passed : refusal (counts_of_design design) ≡ None) where
    allowed : Allowed (counts_of_design design)
    allowed = Allowed-from_refusal (counts_of_design design) passed

    pub few_parts : length (top_content design).parts ≤ PART_LIMIT
    few_parts = let e = top-counted.parts in let f = allowed.parts in let g = many_parts in omega arith

    pub few_wires : length (flat_wires design) ≤ WIRE_LIMIT
    few_wires = let e = top-counted.wires in let f = allowed.wires in let g = ap length wires_are in omega arith

    longest_few : longest_in all ≤ NAME_LIMIT
    longest_few = let e = top-counted.longest in let f = allowed.longest in omega arith

  -- ---- the call that expands the top

  module _ (place : ℕ) (top_is : place ≡ design.top) (places : List ℕ) (places_are : places ≡ range_with_len 0 (length (top_ports design)))
      (wires : List Name) (ports_are : wires ≡ top_ports design) where
    ports_count : length places ≡ ports_at design place
    ports_count =
        let block = get_or design.blocks design.top no_block in
        let e = ap length places_are in
        let f = length-range_with_len 0 (length (top_ports design)) in
        let g = ap length top_ports-are in
        let h = length-take-le block.ports block.wires top_good.ports_first in
        let k = ports_there design.blocks design.top (top_within design valid) in
        let there : ports_at design place ≡ ports_at design design.top = ap (ports_at design) top_is in
        omega arith

    content_is : instance_at design place [] (map (wire_at wires) places) ≡ top_content design
    content_is = grind (arith, wires_all)

    pub CanExpand-top : refusal (counts_of_design design) ≡ None → CanExpand design place [] places wires
    CanExpand-top passed = grind (arith, ports_count, range_within, content_is, length-append, few_wires, short_all, top-shows, short_from_longest, longest_few, longest-append)

    pub IsFlat-from_Grows : (old parts : List Component) (all_wires : List Name) → old ≡ []
        → Grows old wires (instance_at design place [] (map (wire_at wires) places)) parts all_wires → IsFlat design parts all_wires
    IsFlat-from_Grows old parts all_wires none h = grind (arith, content_is)
