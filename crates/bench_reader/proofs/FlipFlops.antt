-- The flip-flops among statements, and their parts.
use Rattle.std.proofs.Common.{◌≡◌, ℕ, ◌+◌, ◌<◌, ◌≤◌, Bool, true, false, List, [], ◌∷◌, ◌++◌, map, length, drop, get_or, Bor, Ok, refl, sym, ap, subst, ◌∙◌, append_assoc, arith}
use Rattle.std.specs.Prelude.{◌||◌, if◌then◌else◌}
use Rattle.std.specs.List.{list_any, list_all, filter, filter_map, flat_map, enumerate_from}
use Rattle.std.specs.Result.{result_map_both}
use Rattle.std.proofs.lemmas.List.{drop_more}
use Rattle.std.proofs.lemmas.List.Folds.{list_any-append, list_all-map}
use Rattle.std.proofs.Math.Bool.{or-false}
use Rattle.indexmap.specs.IndexSet.{insert_key}
use Rattle.text_rules.specs.Names.{Name, same_name, is_among, is_short_name}
use Rattle.text_rules.proofs.NameLemmas.{same_name-Decides}
use Rattle.text_rules.specs.TextLines.{all_lines}
use Rattle.state_rules.proofs.Members.{In-at}
use Rattle.device_model.specs.declared.component.Component.{Component}
use Rattle.device_model.specs.Order.{sorted_distinct}
use Rattle.device_model.specs.Devices.{Device, part_names}
use Rattle.device_model.specs.Building.{joined}
use Rattle.device_model.proofs.SortedDevices.{component_name, list_all-among, list_all-sorted_distinct}
use Rattle.device_model.proofs.SortedLists.{itself}
use Rattle.bench_reader.specs.declared.kinds.FlipFlops.{FlipFlops}
use Rattle.bench_reader.specs.declared.kinds.FlipFlops.TheVariants.{Taken}
use Rattle.bench_reader.specs.Faults.{Fault, unless_fault}
use Rattle.bench_reader.specs.Statements.{Statement}
use Rattle.bench_reader.specs.Signals.{driven, driven_by_gate}
use Rattle.bench_reader.specs.Netlists.{part_of, device_of, fault_in, statement_in, faults_together, readings, netlist_with}
use Rattle.bench_reader.specs.SequentialNetlists.{flip_flops, places_where, sequential_netlist, HasShortNames}
use Rattle.bench_reader.specs.inner.Steps.{statements_or_fault, device_or_fault, is_faultless}
use Rattle.bench_reader.proofs.Lines.{said, read_are_faultless}
use Rattle.bench_reader.proofs.Parts.{names-parts, names-joined}
use Rattle.bench_reader.proofs.FirstFaults.{all_driven_named, is_read, both}

-- ---- a set of names

pub kept-insert : (ks : List (Bor Name)) (k : Bor Name) (name : Name)
    → list_any (λ (j : Bor Name). same_name name j.now) (insert_key (λ (a b : Bor Name). same_name a.now b.now) ks k)
    ≡ (list_any (λ (j : Bor Name). same_name name j.now) ks || same_name name k.now)
kept-insert ks k name = grind (arith, same_name-Decides, list_any-append, or-false)

-- ---- the places of parts

-- the places of the names that pass, counted from `at`
abbrev pub places_from : (Name → Bool) → ℕ → List Name → List ℕ
places_from test at names = map (λ (n : ℕ × Name). n.0) (filter (λ (n : ℕ × Name). test n.1) (enumerate_from at names))

module _ (test : Name → Bool) (parts : List Component) (i : ℕ) (part : Component) (lt : i < length parts) (is : part ≡ get_or parts i part) where
  next_part : part_names (drop i parts) ≡ part.name ∷ part_names (drop (i + 1) parts)
  next_part = ap part_names (drop_more parts i part lt ∙ ap (λ (p : Component). p ∷ drop (i + 1) parts) (sym is))

  places-next : (b : Bool) → test part.name ≡ b → places_from test i (part_names (drop i parts)) ≡ (if b then i ∷ places_from test (i + 1) (part_names (drop (i + 1) parts)) else places_from test (i + 1) (part_names (drop (i + 1) parts)))
  places-next b e = grind (arith, next_part)

  pub places-taken : (done whole : List ℕ) → test part.name ≡ true → whole ≡ done ++ places_from test i (part_names (drop i parts))
      → whole ≡ (done ++ i ∷ []) ++ places_from test (i + 1) (part_names (drop (i + 1) parts))
  places-taken done whole e inv = grind (arith, append_assoc, places-next true)

  pub places-left : (done whole : List ℕ) → test part.name ≡ false → whole ≡ done ++ places_from test i (part_names (drop i parts))
      → whole ≡ done ++ places_from test (i + 1) (part_names (drop (i + 1) parts))
  places-left done whole e inv = inv ∙ ap (λ ps. done ++ ps) (places-next false e)

-- ---- short names

gates_named : (statements : List Statement) → list_all is_short_name (flat_map driven statements) ≡ true → list_all is_short_name (flat_map driven_by_gate statements) ≡ true
gates_named [] h = refl
gates_named (s ∷ statements) h = grind (arith, gates_named statements)

is_few : (name : Name) → is_short_name name ≡ true → length name ≤ 64
is_few name h = grind arith

short_device : (statements : List Statement) → list_all is_faultless statements ≡ true → HasShortNames (device_of statements)
short_device statements h =
    let named = all_driven_named statements h in
    let wires = sorted_distinct itself (flat_map driven statements) in
    let parts = map (joined wires) (flat_map part_of statements) in
    let names : list_all is_short_name (part_names parts) ≡ true = ap (list_all is_short_name) (names-joined wires (flat_map part_of statements) ∙ names-parts statements h) ∙ gates_named statements named in
    let each : list_all (λ (p : Component). is_short_name p.name) parts ≡ true = sym (list_all-map is_short_name component_name parts) ∙ names in
    record {
      parts = λ k d l. is_few (get_or (sorted_distinct component_name parts) k d).name
          (list_all-among (λ (p : Component). is_short_name p.name) (sorted_distinct component_name parts) (list_all-sorted_distinct component_name (λ (p : Component). is_short_name p.name) parts each) (get_or (sorted_distinct component_name parts) k d) (In-at (sorted_distinct component_name parts) k d l));
      wires = λ k d l. is_few (get_or wires k d)
          (list_all-among is_short_name wires (list_all-sorted_distinct itself is_short_name (flat_map driven statements) named) (get_or wires k d) (In-at wires k d l));
    }

-- the device of a netlist has short names
pub netlist-short : (flip_flops : FlipFlops) (text : List ℕ) (device : Device) → netlist_with flip_flops text ≡ Ok device → HasShortNames device
netlist-short flip_flops text device h = by (filter_map fault_in (readings flip_flops text) ++ faults_together statements) h
  where
    statements : List (ℕ × Statement)
    statements = filter_map statement_in (readings flip_flops text)

    made : HasShortNames (device_of (map said statements))
    made = short_device (map said statements) (read_are_faultless flip_flops 1 (all_lines text))

    by : (fs : List Fault) → unless_fault fs (device_of (map said statements)) ≡ Ok device → HasShortNames device
    by [] e = let same : device_of (map said statements) ≡ device = cc in subst HasShortNames same made
    by (f ∷ fs) e = cc

-- ---- reading

module _ (text : List ℕ) where
  module _ (statements : List (ℕ × Statement)) (read : statements_or_fault (readings Taken text) ≡ Ok statements) where
    pub device_read : (device : Device) → device_or_fault statements ≡ Ok device → netlist_with Taken text ≡ Ok device
    device_read device made = is_read Taken text statements read ∙ made

    pub is_sequential : (device : Device) (delayed : List ℕ) → device_or_fault statements ≡ Ok device → delayed ≡ places_where (is_among (flip_flops statements)) (part_names device.parts)
        → sequential_netlist text ≡ Ok (record { device = device; delayed = delayed })
    is_sequential device delayed made are =
        let outputs = flip_flops (filter_map statement_in (readings Taken text)) in
        ap (result_map_both (λ (d : Device). record { device = d; delayed = places_where (is_among outputs) (part_names d.parts) }) (λ fault. fault)) (device_read device made)
        ∙ ap (λ (ss : List (ℕ × Statement)). Ok (record { device = device; delayed = places_where (is_among (flip_flops ss)) (part_names device.parts) })) (both Taken text statements read).1
        ∙ ap (λ (ds : List ℕ). Ok (record { device = device; delayed = ds })) (sym are)
