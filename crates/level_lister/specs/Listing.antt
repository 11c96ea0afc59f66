-- What the lister of levels keeps and answers.
use Rattle.std.specs.Prelude.{ℕ, ◌+◌, ◌*◌, ◌/◌, ◌^◌, ◌<◌, ◌≤◌, Bool, true, false, List, [], ◌∷◌, length, Option, Some, None}
use Rattle.state_rules.specs.Ranking.{cost}
use Rattle.state_rules.specs.Graphs.{Graph}
use Rattle.state_rules.specs.Levels.{levels, levels_rest}
use Rattle.conditioner.specs.Models.{models, total_cost}
use Rattle.minimiser.specs.declared.pass.TheConstants.{TOTAL_LIMIT}
use Rattle.part_sets.specs.declared.kept.TheConstants.{PART_LIMIT}
use Rattle.part_sets.specs.PartSets.{AreBelow, AreLacking}
use Rattle.level_lister.specs.declared.levels.LevelStep.{LevelStep}
use Rattle.level_lister.specs.declared.levels.LevelStep.TheVariants.{Found, End, Inconsistent}

-- the costs of the parts, the greatest listed cost, and for each node of a graph the parts below it and whether a child lacks one of them
pub record Kept : Type 0 where
  pub costs : List ℕ
  pub top : ℕ
  pub below : List ℕ
  pub lacking : List ℕ

-- `kept` was made for `graph`
pub record IsFor (graph : Graph) (kept : Kept) : Type 0 where
  pub parts : length kept.costs ≤ graph.vars
  pub few : length kept.costs ≤ PART_LIMIT
  pub total : total_cost kept.costs < TOTAL_LIMIT
  pub top : kept.top < 2 ^ 31
  pub below : AreBelow graph (length kept.costs) kept.below
  pub lacking : AreLacking graph (length kept.costs) kept.lacking

-- the number of 32-bit words of a set of the listed costs
abbrev pub cost_words : ℕ → ℕ
cost_words top = top / 32 + 1

-- a number of words that is enough to find the next state
abbrev pub step_words : Graph → Kept → ℕ
step_words graph kept = (length graph.nodes + 2) * (cost_words kept.top + 1) + length kept.costs

-- the number of words with which this takes the fewest passes
abbrev pub fast_words : Graph → Kept → ℕ
fast_words graph kept = length kept.costs + length graph.nodes + (length graph.nodes + 2) * (2 * cost_words kept.top)

-- a state as a point, or none
abbrev pub point_if : Bool → List Bool → Option (List Bool)
point_if false state = None
point_if true state = Some state

-- the listed states after a point
abbrev pub later_levels : Graph → List ℕ → Kept → Option (List Bool) → List (List Bool)
later_levels graph evidence kept point = levels_rest kept.costs (levels kept.costs kept.top (models graph evidence (length kept.costs))) point

-- the answer, by the states that are allowed and those that are later
abbrev pub level_step : List ℕ → List (List Bool) → List (List Bool) → LevelStep
level_step costs [] later = Inconsistent
level_step costs (m ∷ ms) [] = End
level_step costs (m ∷ ms) (d ∷ later) = Found (cost costs d)
