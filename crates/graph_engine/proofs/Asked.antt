-- The answers of the graph under the words of a case.
use Rattle.std.proofs.Common.{◌≡◌, ◌∙◌, ◌+◌, ◌<◌, ℕ, Bool, List, length, refl, arith}
use Rattle.state_rules.specs.Graphs.{Graph}
use Rattle.state_rules.specs.Systems.{least_cost, all_diagnoses}
use Rattle.fault_graph.specs.Minimised.{Kept, Serves}
use Rattle.scratch_pool.specs.Regions.{Carved}
use Rattle.conditioner.specs.Models.{models, least_under, least_with, diagnoses_under}
use Rattle.session_rules.specs.GraphSystems.{Subject}
use Rattle.session_rules.specs.Replies.{least_at, seen_at}
use Rattle.session_rules.proofs.ProbeEvidence.{least_with-by_words}
use Rattle.graph_engine.specs.Served.{OnGraph, served_system, about_of}
use Rattle.graph_engine.specs.inner.Bases.{IsBasis, AreKnown, case_in}
use Rattle.graph_engine.specs.inner.Held.{FitsTogether}

module _ (subject : Subject) (known : List ℕ) (basis : IsBasis subject) (are : AreKnown subject known) (graph : Graph) (words costs : List ℕ) (g : graph ≡ subject.graph) (w : words ≡ known) (p : costs ≡ subject.costs) where
  pub states-asked : models graph words (length costs) ≡ (served_system subject).consistent (case_in subject known)
  states-asked = grind arith

  pub least-asked : least_under graph words costs ≡ least_cost (served_system subject) (case_in subject known)
  least-asked = grind arith

  pub diagnoses-asked : diagnoses_under graph words costs ≡ all_diagnoses (served_system subject) (case_in subject known)
  diagnoses-asked = grind arith

  -- the same if the variable of a wire has a bit too
  pub seen-asked : (wire var : ℕ) (bit : Bool) → wire < length subject.wires → var ≡ length subject.parts + wire + 1
      → least_with graph words costs var bit ≡ least_at (served_system subject) (case_in subject known) wire bit (seen_at (case_in subject known) wire)
  seen-asked wire var bit within v =
      (λ i. least_with (g i) (w i) (p i) (v i) bit)
      ∙ least_with-by_words subject.parts subject.wires subject.costs subject.graph subject.graph.vars known basis.costs refl are wire within bit

-- all still fits together after a pass that restores the words
pub fits_after : (basis : Subject) (known values state : List ℕ) (room : Carved) (kept : Kept) → FitsTogether basis known values state room kept
    → (words after other : List ℕ) (graph : Graph) (costs : List ℕ) (now : Kept)
    → words ≡ known → length after ≡ length values → length other ≡ length state → graph ≡ basis.graph → costs ≡ basis.costs → Serves graph costs now
    → FitsTogether basis words after other room now
fits_after basis known values state room kept fits words after other graph costs now same one_a_node one_a_part g p serves = grind arith

-- what the engine answers about is as before
pub same_about : (now old : OnGraph) (words : List ℕ) → now ≡ old → words ≡ now.known → about_of (record now { known = words }) ≡ about_of old
same_about now old words is same = (λ i. about_of (record { subject = (is i).subject; known = (same ∙ (λ j. (is j).known)) i }))
