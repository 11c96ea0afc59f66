-- What a graph's engine holds, and its answers.
use Rattle.std.specs.Prelude.{◌≡◌, ℕ, List, [], length, Some, None}
use Rattle.fault_graph.specs.Minimised.{Kept, Serves}
use Rattle.scratch_pool.specs.Regions.{Carved}
use Rattle.diagnosis_lister.specs.declared.listing.Step.{Step}
use Rattle.diagnosis_lister.specs.declared.listing.Step.TheVariants as step
use Rattle.level_lister.specs.declared.levels.LevelStep.{LevelStep}
use Rattle.level_lister.specs.declared.levels.LevelStep.TheVariants as level
use Rattle.session_rules.specs.GraphSystems.{Subject}
use Rattle.engines.specs.declared.listed.NextState.{NextState}
use Rattle.engines.specs.declared.listed.NextState.TheVariants.{Found, End, Inconsistent}
use Rattle.graph_engine.specs.inner.Bases.{AreEnough, AreKnown}

-- A basis and the words of a case, with a value for each node, a state, room of which nothing is in use, and a smaller graph that has the
-- diagnoses under some evidence.
pub record FitsTogether (basis : Subject) (known values state : List ℕ) (room : Carved) (kept : Kept) : Type 0 where
  pub evidence : AreKnown basis known
  pub one_a_part : length state ≡ length basis.parts
  pub one_a_node : length values ≡ length basis.graph.nodes
  pub enough : AreEnough basis (length room.words)
  pub unused : room.runs ≡ []
  pub serves : Serves basis.graph basis.costs kept

-- what comes next, from the answer of a lister
abbrev pub of_step : Step → NextState
of_step step.Found = Found None
of_step step.End = End
of_step step.Inconsistent = Inconsistent

abbrev pub of_level_step : LevelStep → NextState
of_level_step (level.Found cost) = Found (Some cost)
of_level_step level.End = End
of_level_step level.Inconsistent = Inconsistent
