-- A smaller graph with the same states of least cost, and one that is kept.
use Rattle.std.specs.Prelude.{◌≡◌, ◌≤◌, ℕ, List, length, Option, Some, IsSome, IsSomeAnd}
use Rattle.state_rules.specs.Graphs.{Graph, edges}
use Rattle.conditioner.specs.Models.{least_under, diagnoses_under}
use Rattle.fault_graph.specs.Small.{IsSmall}

-- It has the same variables and, under this evidence and these costs, the same least cost and diagnoses. It has no more nodes, and they
-- have no more children.
pub record IsMinimised (graph : Graph) (evidence costs : List ℕ) (small : Graph) : Type 0 where
  pub vars : small.vars ≡ graph.vars
  pub least : least_under small evidence costs ≡ least_under graph evidence costs
  pub diagnoses : diagnoses_under small evidence costs ≡ diagnoses_under graph evidence costs
  pub few : length small.nodes ≤ length graph.nodes
  pub few_edges : edges small.nodes ≤ edges graph.nodes

-- the evidence under which a graph was minimised, and the result
pub record Last : Type 0 where
  pub evidence : List ℕ
  pub small : Graph

-- room for `nodes` nodes, `kids` children of all of them and `vars` variables, and what was minimised last
pub record Kept : Type 0 where
  pub nodes : ℕ
  pub kids : ℕ
  pub vars : ℕ
  pub last : Option Last

-- what was minimised last was minimised under this evidence
abbrev pub IsOf : List ℕ → Kept → Type 0
IsOf evidence kept = IsSomeAnd kept.last (λ last. last.evidence ≡ evidence)

-- There is room for the graph. What was minimised last is from it, under evidence that some state agrees with, and is small.
pub record Serves (graph : Graph) (costs : List ℕ) (kept : Kept) : Type 0 where
  pub nodes : kept.nodes ≡ length graph.nodes
  pub kids : kept.kids ≡ edges graph.nodes
  pub vars : kept.vars ≡ graph.vars
  pub some : (last : Last) → kept.last ≡ Some last → IsSome (least_under graph last.evidence costs)
  pub minimised : (last : Last) → kept.last ≡ Some last → IsMinimised graph last.evidence costs last.small
  pub small : (last : Last) → kept.last ≡ Some last → IsSmall last.evidence costs last.small
