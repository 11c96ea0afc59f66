-- The texts of a service's graphs have their meaning.
use Rattle.std.proofs.Common.{◌≡◌, ◌+◌, ◌^◌, ◌<◌, ◌≤◌, true, length, refl, arith}
use Rattle.std.proofs.lemmas.Bool.Decides.{nat_tests}
use Rattle.state_rules.specs.Cases.{Case}
use Rattle.state_rules.specs.Systems.{all_diagnoses}
use Rattle.state_rules.specs.Graphs.{IsGraph}
use Rattle.projector.specs.Projecting.{projection}
use Rattle.projector.proofs.Projected.{projected_text-is_neat, projected_text-means}
use Rattle.smooth_nnf.specs.Layouts.{least_graph}
use Rattle.smooth_nnf.proofs.WholeText.{least_text-is_neat, least_text-means}
use Rattle.session_rules.specs.Items.{Projected, LeastText}
use Rattle.session_rules.specs.Spelling.{Spelled}
use Rattle.session_rules.specs.GraphSystems.{Subject, HasLeastTexts, system_of, case_evidence}
use Rattle.session_rules.specs.CaseSizes.{IsCaseOf}
use Rattle.session_rules.proofs.CaseEvidence.{length-case_evidence}
use Rattle.graph_engine.specs.Served.{case_text, least_case_text}

module _ (subject : Subject) (is : IsGraph subject.graph) (room : length subject.parts + length subject.wires ≤ subject.graph.vars) (few : length subject.graph.nodes + length subject.parts + 1 < 2 ^ 32)
    (least : subject.extras.least ≡ true → HasLeastTexts subject) where
  -- the projected text under the words of a case spells its states
  pub case-spelled : (known : Case) → IsCaseOf (system_of subject) known
      → Spelled (Projected (length subject.parts) ((system_of subject).consistent known)) (case_text subject known)
  case-spelled known h =
      let parts = length subject.parts in
      let words = case_evidence subject.graph.vars known in
      let long = length-case_evidence subject.graph.vars known (omega (arith, h.0, h.1, room)) in
      let narrow : parts ≤ subject.graph.vars = omega (arith, room) in
      ((projected_text-is_neat subject.graph words parts is long narrow few, (projection subject.graph words parts, refl)), projected_text-means subject.graph words parts is long narrow few)

  -- the text of the diagnoses' graph spells them
  pub least-spelled : (known : Case) → IsCaseOf (system_of subject) known → subject.extras.least ≡ true
      → Spelled (LeastText (length subject.parts) (all_diagnoses (system_of subject) known)) (least_case_text subject known)
  least-spelled known h told =
      let words = case_evidence subject.graph.vars known in
      let long = length-case_evidence subject.graph.vars known (omega (arith, h.0, h.1, room)) in
      let has = least told in
      let narrow : length subject.costs ≤ subject.graph.vars = omega (arith, room, has.costs) in (
        (least_text-is_neat subject.graph words subject.costs is long narrow has.dear has.few, (least_graph subject.graph words subject.costs, refl)),
        grind (arith, nat_tests, least_text-means subject.graph words subject.costs is long narrow has.dear has.few),
      )
