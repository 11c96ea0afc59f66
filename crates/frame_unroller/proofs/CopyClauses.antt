-- The clauses of the copies, over the health of the parts, mean what fits over the times.
use Rattle.std.proofs.Common.{◌≡◌, ℕ, ◌+◌, ◌-◌, ◌<◌, ◌≤◌, Bool, true, false, List, [], ◌∷◌, ◌++◌, map, length, get_or, Ok, refl, sym, ap, ◌∙◌, append_assoc, arith}
use Rattle.std.specs.Prelude.{◌&&◌, nat_lt}
use Rattle.std.specs.List.{list_all, list_any, enumerate_from}
use Rattle.std.proofs.lemmas.Bool.{ltb-true, cases_lt}
use Rattle.std.proofs.lemmas.List.{length-map, map-append, take-append-drop, get_or-map, get_or_append_left, get_or-append_right}
use Rattle.std.proofs.lemmas.List.FromFn.{get_or-range_with_len}
use Rattle.std.proofs.lemmas.List.Folds.{list_all-map}
use Rattle.text_rules.specs.Names.{Name}
use Rattle.state_rules.specs.Bits.{bit_in, lists_of_bits}
use Rattle.state_rules.specs.Assignments.{Assignment, assignment}
use Rattle.state_rules.proofs.Lists.{list_all-at}
use Rattle.state_rules.proofs.Members.{any_same, In}
use Rattle.device_model.specs.declared.component.Component.{Component}
use Rattle.device_model.specs.TruthTable.{TruthTable}
use Rattle.device_model.specs.Gates.{rule}
use Rattle.device_model.specs.Devices.{IsDevice, has_wires, allows, part_allows, parts_fit, fits}
use Rattle.device_model.specs.Building.{place_in, joined}
use Rattle.device_model.proofs.SortedDevices.{list_all-among, list_all-from_among}
use Rattle.bench_reader.specs.declared.sequential.Sequential.{Sequential}
use Rattle.clause_encoder.specs.Clauses.{ClauseList, all_hold, is_clause, is_clause_list}
use Rattle.clause_encoder.specs.Encoding.{Describes, DescribesBy, clause_list, encoded}
use Rattle.clause_encoder.specs.Replacing.{variable_for}
use Rattle.clause_encoder.proofs.OtherVariables.{all_hold-same, list_from}
use Rattle.clause_encoder.proofs.Sizes.{encoded-is}
use Rattle.frame_unroller.proofs.NoClauseLost.{OneEach, one_health-tidy, all_kept}
use Rattle.frame_unroller.specs.Times.{times, wire_at}
use Rattle.frame_unroller.specs.Frames.{is_delayed, inputs, output, fits_at}
use Rattle.frame_unroller.specs.Diagnosis.{frame_wires, fits_over}
use Rattle.frame_unroller.specs.Unrolling.{Copy, copies_of, copies_for, copies, wires_at, named_copy, frame_device, owners, shared_variables, shared}
use Rattle.frame_unroller.proofs.Copies.{are_copies}
use Rattle.frame_unroller.proofs.Members.{among-range, among-enumerate, list_all-flat_map, both_pass}

-- ---- parts that are made of others

parts_fit-made : {A : Type 0} (tables : List TruthTable) (make : A → Component) (place : A → ℕ) (state wires : List Bool) (xs : List A)
    → parts_fit tables (map make xs) (map (bit_in state) (map place xs)) wires ≡ list_all (λ x. part_allows tables (make x) (bit_in state (place x)) wires) xs
parts_fit-made tables make place state wires [] = refl
parts_fit-made tables make place state wires (x ∷ xs) = ap (λ b. part_allows tables (make x) (bit_in state (place x)) wires && b) (parts_fit-made tables make place state wires xs)

module _ (seq : Sequential) (frames : ℕ) (valid : IsDevice seq.device) (state bits : List Bool) where
  abbrev names : List Name
  names = seq.device.wires

  abbrev tables : List TruthTable
  tables = seq.device.tables

  abbrev waves : ℕ → List Bool
  waves t = map (λ wire. bit_in bits (place_in (frame_wires seq frames) (wire_at t wire))) names

  -- whether a copy allows the row of its wires' bits
  abbrev allowed : Copy → Bool
  allowed c = part_allows tables (joined (frame_wires seq frames) (named_copy names c)) (bit_in state c.place) bits

  -- ---- one copy

  row_at : (t : ℕ) (ports : List ℕ) → list_all (λ port. nat_lt port (length names)) ports ≡ true
      → map (bit_in bits) (map (place_in (frame_wires seq frames)) (wires_at names t ports)) ≡ map (bit_in (waves t)) ports
  row_at t [] h = refl
  row_at t (p ∷ ports) h =
      let here = get_or-map (λ (wire : Name). bit_in bits (place_in (frame_wires seq frames) (wire_at t wire))) names p [] false in
      grind (arith, here, row_at t ports)

  module _ (place : ℕ) (part : Component) (there : In part seq.device.parts) where
    abbrev copy : ℕ → ℕ → Copy
    copy before now = record { place = place; part = part; before = before; now = now }

    wired : (list_all (λ port. nat_lt port (length names)) (inputs part) ≡ true) × (list_all (λ port. nat_lt port (length names)) (output part) ≡ true)
    wired = both_pass (λ port. nat_lt port (length names)) (length part.ports - 1) part.ports (list_all-among (has_wires (length names)) seq.device.parts valid.joined part there)

    allowed-row : (before now : ℕ) → allowed (copy before now) ≡ allows tables (rule part.kind) (bit_in state place) (map (bit_in (waves before)) (inputs part) ++ map (bit_in (waves now)) (output part))
    allowed-row before now = grind (arith, map-append, row_at, wired)

    row-now : (now : ℕ) → map (bit_in (waves now)) (inputs part) ++ map (bit_in (waves now)) (output part) ≡ map (bit_in (waves now)) part.ports
    row-now now = sym (map-append (bit_in (waves now)) (inputs part) (output part)) ∙ ap (map (bit_in (waves now))) (take-append-drop (length part.ports - 1) part.ports)

    -- the copies of a part for a time allow their rows exactly if it fits then
    copies-fit : (t : ℕ) → 1 ≤ t → list_all allowed (copies_of seq t (place, part)) ≡ fits_at tables (is_delayed seq place) part (bit_in state place) waves t
    copies-fit t some = grind (arith, allowed-row t t, allowed-row (t - 1) t, row-now t)

  -- ---- all copies

  pub device-fits : fits (frame_device seq frames) (map (bit_in state) (owners seq frames)) bits ≡ fits_over seq frames state bits
  device-fits =
      let fit : ℕ → ℕ × Component → Bool = λ t p. fits_at tables (is_delayed seq p.0) p.1 (bit_in state p.0) waves t in
      parts_fit-made tables (λ c. joined (frame_wires seq frames) (named_copy names c)) (λ (c : Copy). c.place) state bits (copies seq frames)
      ∙ list_all-flat_map allowed (λ t. list_all (fit t) (enumerate_from 0 seq.device.parts)) (copies_for seq) (times frames)
      (λ t m. list_all-flat_map allowed (fit t) (copies_of seq t) (enumerate_from 0 seq.device.parts)
      (λ p n. copies-fit p.0 p.1 (among-enumerate 0 seq.device.parts p n).2 t (among-range 1 frames t m).0))

-- ---- the variables

place-below : (n : ℕ) (places : List ℕ) → list_all (λ place. nat_lt place n) places ≡ true → (k d : ℕ) → k < length places → get_or places k d < n
place-below n places below k d lt = ltb-true (get_or places k d) n (list_all-at (λ place. nat_lt place n) places k d below lt)

module _ (n vars : ℕ) (state bits inner : List Bool) (places : List ℕ) (long : length state ≡ n) (owned : list_all (λ place. nat_lt place n) places ≡ true) (room : length places ≤ vars) where
  -- each variable has the bit of the one that replaces it
  pub same_bits : (v : ℕ) → 1 ≤ v → v ≤ vars → assignment (state ++ bits ++ inner) (variable_for (shared_variables n places vars) v) ≡ assignment (map (bit_in state) places ++ bits ++ inner) v
  same_bits v some most =
      let k : ℕ = v - 1 in
      let less : (n : ℕ) → n + 1 - 1 ≡ n = λ n. omega arith in
      grind (arith, append_assoc, cases_lt k (length places), get_or_append_left, get_or-append_right, place-below n places owned k 0, length-map, get_or-map, get_or-range_with_len)

-- ---- what the clauses describe

owners-within : (seq : Sequential) (frames : ℕ) → list_all (λ place. nat_lt place (length seq.device.parts)) (owners seq frames) ≡ true
owners-within seq frames = grind (arith, list_all-map, list_all-from_among, are_copies)

pub owner-at : (seq : Sequential) (frames k d : ℕ) → k < length (owners seq frames) → get_or (owners seq frames) k d < length seq.device.parts
owner-at seq frames = place-below (length seq.device.parts) (owners seq frames) (owners-within seq frames)

module _ (seq : Sequential) (frames : ℕ) (valid : IsDevice seq.device) (list : ClauseList) (each : list_all (is_clause list.vars) list.clauses ≡ true)
    (describes : Describes list (frame_device seq frames)) (room : length (copies seq frames) ≤ list.vars) where
  pub frames-described : (cnf : ClauseList) → cnf ≡ shared (length seq.device.parts) (owners seq frames) list
      → ((a : Assignment) → all_hold a cnf.clauses ≡ all_hold (λ v. a (variable_for (shared_variables (length seq.device.parts) (owners seq frames) list.vars) v)) list.clauses)
      → DescribesBy cnf (length seq.device.parts) (length (frame_wires seq frames)) (fits_over seq frames)
  frames-described cnf is truth state bits long wide =
      let made = map (bit_in state) (owners seq frames) in
      let more : ℕ = list.vars - (length (frame_device seq frames).parts + length (frame_wires seq frames)) in
      let counted : cnf.vars - (length seq.device.parts + length (frame_wires seq frames)) ≡ more = grind (arith, length-map) in
      let same : (inner : List Bool) → all_hold (assignment (state ++ bits ++ inner)) cnf.clauses ≡ all_hold (assignment (made ++ bits ++ inner)) list.clauses =
      λ inner. truth (assignment (state ++ bits ++ inner))
      ∙ all_hold-same list.vars (λ v. assignment (state ++ bits ++ inner) (variable_for (shared_variables (length seq.device.parts) (owners seq frames) list.vars) v))
      (assignment (made ++ bits ++ inner)) list.clauses each
      (same_bits (length seq.device.parts) list.vars state bits inner (owners seq frames) long (owners-within seq frames) (grind (arith, length-map))) in
      (λ i. list_any (λ inner. all_hold (assignment (state ++ bits ++ inner)) cnf.clauses) (lists_of_bits (counted i)))
      ∙ any_same (λ inner. all_hold (assignment (state ++ bits ++ inner)) cnf.clauses) (λ inner. all_hold (assignment (made ++ bits ++ inner)) list.clauses) (lists_of_bits more) (λ inner _. same inner)
      ∙ describes made bits (grind (arith, length-map)) wide
      ∙ device-fits seq frames valid state bits

-- no clause is left out, so the counts are equal
pub frames-whole : (seq : Sequential) (frames : ℕ) (list : ClauseList) → IsDevice (frame_device seq frames) → encoded (frame_device seq frames) ≡ Ok list → is_clause_list list ≡ true
    → length (shared (length seq.device.parts) (owners seq frames) list).clauses ≡ length (clause_list (frame_device seq frames)).clauses
frames-whole seq frames list valid encodes given =
    let places = owners seq frames in
    let owned : length (frame_device seq frames).parts ≡ length places = grind (arith, length-map) in
    let is : list ≡ clause_list (frame_device seq frames) = grind arith in
    let one : OneEach (length places) list.clauses = rw (← owned, is) (one_health-tidy (frame_device seq frames) valid) in
    all_kept (length seq.device.parts) list.vars places (omega (arith, owned, (encoded-is (frame_device seq frames) list encodes).vars)) (owner-at seq frames) list.clauses (list_from list given).each one
    ∙ ap (λ (l : ClauseList). length l.clauses) is
