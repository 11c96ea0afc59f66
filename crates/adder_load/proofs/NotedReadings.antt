-- What readings say in turn.
use Rattle.std.proofs.Common.{◌≡◌, ℕ, ◌+◌, ◌-◌, ◌<◌, ◌≤◌, Bool, List, [], ◌∷◌, ◌++◌, length, replicate, set, ap, sym, ◌∙◌, subst, Some, arith}
use Rattle.std.specs.Prelude.{◌↔◌, ◌==◌, slice_set, IsTrue, fold}
use Rattle.std.specs.Option.{option_map_or}
use Rattle.std.proofs.lemmas.List.Sums.{fold-append}
use Rattle.std.proofs.lemmas.List.Quantifiers.{position-Some}
use Rattle.text_rules.specs.Names.{Name, same_name}
use Rattle.device_model.specs.Devices.{Device, place_of}
use Rattle.conditioner.specs.Evidence.{word_of}
use Rattle.session_rules.specs.CaseEvidence.{IsEvidence}
use Rattle.session_rules.specs.GraphSystems.{case_evidence}
use Rattle.session_rules.proofs.CaseEvidence.{wire-says, wire-are, zeros-say, zeros-are, words-of_case}
use Rattle.adder_load.specs.Readings.{Reading, readings, with_reading, adder_case}
use Rattle.adder_load.specs.inner.Noting.{case_in, Notes}

-- a test for 0
pub is_zero : (test : Bool) (n : ℕ) → (IsTrue test ↔ (n ≡ 0)) → test ≡ (n == 0)
is_zero test n decides = grind arith

-- some readings, and then others
pub notes-append : (device : Device) (old between new : List ℕ) (xs ys : List Reading) → Notes device old between xs → Notes device between new ys → Notes device old new (xs ++ ys)
notes-append device old between new xs ys first then = grind (arith, fold-append)

pub wire_within : (device : Device) (name : Name) (wire : ℕ) → Some wire ≡ place_of name device.wires → wire < length device.wires
wire_within device name wire at = (position-Some (same_name name) device.wires wire [] (sym at)).0

module _ (device : Device) (evidence : List ℕ) (are : IsEvidence (length device.parts) (length device.wires) (length evidence) evidence) where
  pub noted : (name : Name) (bit : Bool) (wire var : ℕ) (new : List ℕ) → Some wire ≡ place_of name device.wires → var ≡ length device.parts + wire + 1 → new ≡ slice_set evidence (var - 1) (word_of bit)
      → Notes device evidence new ((name, bit) ∷ [])
  noted name bit wire var new at is written =
      let within = wire_within device name wire at in
      let place : var - 1 ≡ length device.parts + wire = omega (arith, is) in
      let same : new ≡ set evidence (length device.parts + wire) (word_of bit) = written ∙ ap (λ n. set evidence n (word_of bit)) place in
      let says = wire-says (length device.parts) (length device.wires) (length evidence) evidence are wire within (Some bit) in
      let what = ap (case_in device) same ∙ says in
      record {
        evidence = subst (IsEvidence (length device.parts) (length device.wires) (length evidence)) (sym same) (wire-are (length device.parts) (length device.wires) (length evidence) evidence are wire within (Some bit));
        seen = ap (λ known. known.seen) what ∙ ap (λ o. option_map_or (λ w. set (case_in device evidence).seen w (Some bit)) o (case_in device evidence).seen) at;
        held = ap (λ known. known.held) what;
      }

-- ---- all readings, in evidence that is all 0

module _ (device : Device) (evidence : List ℕ) (none : evidence ≡ replicate (length evidence) 0) (room : length device.parts + length device.wires ≤ length evidence) where
  pub zeros : IsEvidence (length device.parts) (length device.wires) (length evidence) evidence
  zeros = subst (IsEvidence (length device.parts) (length device.wires) (length evidence)) (sym none) (zeros-are (length device.parts) (length device.wires) (length evidence) room)

  pub all_noted : (places : ℕ) (new : List ℕ) (what : List Reading) → what ≡ readings places → Notes device evidence new what → new ≡ case_evidence (length evidence) (adder_case device places)
  all_noted places new what all notes =
      let nothing = ap (case_in device) none ∙ zeros-say (length device.parts) (length device.wires) (length evidence) room in
      let seen = notes.seen ∙ (λ i. fold (with_reading device.wires) (nothing i).seen (all i)) in
      let held = notes.held ∙ ap (λ known. known.held) nothing in
      sym (words-of_case (length device.parts) (length device.wires) (length evidence) new notes.evidence)
      ∙ (λ i. case_evidence (length evidence) (record { seen = seen i; held = held i }))
