-- A graph that is true exactly if bits fit has the consistent states of what fits.
use Rattle.std.proofs.Common.{◌≡◌, ℕ, zero, suc, ◌+◌, ◌-◌, Bool, true, ◌&&◌, List, [], ◌∷◌, ◌++◌, map, length, replicate, refl, ap, ap₂, sym, ◌∙◌, Option, arith, append_assoc}
use Rattle.std.specs.List.{list_any}
use Rattle.std.proofs.Math.Bool.{and_assoc}
use Rattle.std.proofs.lemmas.List.{map-append, length-map}
use Rattle.text_rules.specs.Names.{Name}
use Rattle.state_rules.specs.Bits.{lists_of_bits}
use Rattle.state_rules.specs.Cases.{Case, agrees}
use Rattle.state_rules.specs.Ranking.{Test}
use Rattle.state_rules.specs.Graphs.{Graph, holds}
use Rattle.state_rules.specs.GraphsOver.{IsGraphOver}
use Rattle.device_model.specs.Devices.{Device, part_names, part_costs, fits}
use Rattle.device_model.specs.Diagnosis.{is_consistent, fitting_system, device_system}
use Rattle.conditioner.specs.Evidence.{known_of, word_of_known}
use Rattle.conditioner.specs.Models.{has_model, fits_evidence}
use Rattle.session_rules.specs.Spelling.{IsGraphOf}
use Rattle.session_rules.specs.GraphSystems.{case_evidence, graph_system, compiled_system}
use Rattle.session_rules.specs.CaseSizes.{IsCaseOf}
use Rattle.session_rules.proofs.Enumerated.{Agree, passing-same, any-same, any-split, any-and}

-- what is known of some bits and of others after them
agrees-append : (ks js : List (Option Bool)) (bits others : List Bool) → length ks ≡ length bits → agrees (ks ++ js) (bits ++ others) ≡ (agrees ks bits && agrees js others)
agrees-append [] js [] others e = refl
agrees-append (k ∷ ks) js [] others e = absurd (omega (arith, e))
agrees-append [] js (b ∷ bits) others e = absurd (omega (arith, e))
agrees-append (k ∷ ks) js (b ∷ bits) others e = grind (arith, agrees-append ks js bits others)

agrees-zeros : (n : ℕ) (bits : List Bool) → agrees (map known_of (replicate n 0)) bits ≡ true
agrees-zeros zero bits = refl
agrees-zeros (suc n) [] = refl
agrees-zeros (suc n) (b ∷ bits) = agrees-zeros n bits

-- the word of what is known says it
pub known_of-word : (k : Option Bool) → known_of (word_of_known k) ≡ k
known_of-word k = grind arith

pub all_known : (ks : List (Option Bool)) → map known_of (map word_of_known ks) ≡ ks
all_known [] = refl
all_known (k ∷ ks) = ap₂ (λ x xs. x ∷ xs) (known_of-word k) (all_known ks)

-- the words of a case say what the case does, and nothing of the inner variables
pub known-case_evidence : (vars : ℕ) (known : Case) → map known_of (case_evidence vars known)
    ≡ known.held ++ (known.seen ++ map known_of (replicate (vars - (length known.held + length known.seen)) 0))
known-case_evidence vars known = grind (arith, map-append, all_known)

-- bits fit the words of a case if they agree with the case
pub fits-case_evidence : (vars : ℕ) (known : Case) (state wires inner : List Bool) → length known.held ≡ length state → length known.seen ≡ length wires
    → fits_evidence (case_evidence vars known) (state ++ (wires ++ inner)) ≡ (agrees known.held state && agrees known.seen wires)
fits-case_evidence vars known state wires inner held seen = grind (arith, known-case_evidence, agrees-append, agrees-zeros)

module _ (parts wires : List Name) (costs : List ℕ) (fits_by : List Bool → List Bool → Bool) (graph : Graph) (is : IsGraphOver (length parts) (length wires) fits_by graph)
    (known : Case) (case : IsCaseOf (fitting_system parts wires costs fits_by) known) where
  abbrev words : List ℕ
  words = case_evidence graph.vars known

  abbrev inner_count : ℕ
  inner_count = graph.vars - (length parts + length wires)

  -- the bits fit the words and make the graph true
  abbrev is_model : Test
  is_model bits = fits_evidence words bits && holds graph bits

  abbrev agreeing : Test
  agreeing = is_consistent fits_by (length wires) known

  for_wires : (state bits : List Bool) → length state ≡ length parts → length bits ≡ length wires
      → list_any (λ inner. is_model (state ++ (bits ++ inner))) (lists_of_bits inner_count)
      ≡ (agrees known.held state && (agrees known.seen bits && fits_by state bits))
  for_wires state bits states all =
      let held : length known.held ≡ length state = case.1 ∙ sym states in
      let seen : length known.seen ≡ length bits = case.0 ∙ sym all in
      let agreed : Bool = agrees known.held state && agrees known.seen bits in
      (λ j. list_any (λ inner. fits-case_evidence graph.vars known state bits inner held seen j && holds graph (state ++ (bits ++ inner))) (lists_of_bits inner_count))
      ∙ any-and agreed (λ inner. holds graph (state ++ (bits ++ inner))) (lists_of_bits inner_count)
      ∙ (λ j. agreed && list_any (λ inner. holds graph (sym (append_assoc state bits inner) j)) (lists_of_bits (graph.vars - (sym states j + sym all j))))
      ∙ ap (λ b. agreed && b) (is.meaning state bits states all)
      ∙ and_assoc (agrees known.held state) (agrees known.seen bits) (fits_by state bits)

  for_state : Agree (length parts) agreeing (has_model graph (fits_evidence words) (length parts))
  for_state state states =
      let room = is.room in
      let parted : graph.vars - length parts ≡ length wires + inner_count = omega (arith, room) in
      let of_wires : Test = λ bits. agrees known.held state && (agrees known.seen bits && fits_by state bits) in
      sym (
      ap (λ n. list_any (λ others. is_model (state ++ others)) (lists_of_bits n)) parted
      ∙ any-split (length wires) inner_count (λ others. is_model (state ++ others))
      ∙ any-same (length wires) (λ bits. list_any (λ inner. is_model (state ++ (bits ++ inner))) (lists_of_bits inner_count)) of_wires
      (λ bits all. for_wires state bits states all)
      ∙ any-and (agrees known.held state) (λ bits. agrees known.seen bits && fits_by state bits) (lists_of_bits (length wires))
      )

  -- for every case a graph that is true if bits fit has the consistent states of what fits
  pub same_fitting : (graph_system parts wires costs graph).consistent known ≡ (fitting_system parts wires costs fits_by).consistent known
  same_fitting = sym (passing-same (length parts) agreeing (has_model graph (fits_evidence words) (length parts)) for_state)

-- ---- devices

-- a device's graph is one over its names
pub over_names : (device : Device) (graph : Graph) → IsGraphOf device graph → IsGraphOver (length (part_names device.parts)) (length device.wires) (fits device) graph
over_names device graph is = grind (arith, length-map)

-- it has the same consistent states for every case of the device
pub same_consistent : (device : Device) (graph : Graph) → IsGraphOf device graph → (known : Case) → IsCaseOf (device_system device) known
    → (compiled_system device graph).consistent known ≡ (device_system device).consistent known
same_consistent device graph is known case =
    same_fitting (part_names device.parts) device.wires (part_costs device) (fits device) graph (over_names device graph is) known case
