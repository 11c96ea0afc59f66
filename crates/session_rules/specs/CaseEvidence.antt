-- A session's case as evidence: one word for each variable of the graph.
use Rattle.std.specs.Prelude.{◌≡◌, ℕ, ◌+◌, ◌≤◌, ◌<◌, List, take, drop, length, All}
use Rattle.state_rules.specs.Cases.{Case}
use Rattle.conditioner.specs.Evidence.{known}
use Rattle.session_rules.specs.GraphSystems.{case_evidence}

-- the case that evidence on parts and wires says
abbrev pub case_of_evidence : ℕ → ℕ → List ℕ → Case
case_of_evidence parts wires evidence = record {
  seen = known (take wires (drop parts evidence));
  held = known (take parts evidence);
}

-- the evidence is that of the case that it says
pub record IsCaseEvidence (parts wires : ℕ) (evidence : List ℕ) : Type 0 where
  pub room : parts + wires ≤ length evidence
  pub same : case_evidence (length evidence) (case_of_evidence parts wires evidence) ≡ evidence

-- the evidence is on `vars` variables, and that of a case of these parts and wires
pub record IsEvidence (parts wires vars : ℕ) (evidence : List ℕ) : Type 0 where
  pub long : length evidence ≡ vars
  pub small : All (λ w. w < 3) evidence
  pub case : IsCaseEvidence parts wires evidence
