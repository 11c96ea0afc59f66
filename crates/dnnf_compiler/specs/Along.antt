-- What clauses and a forest of their variables are compiled to.
use Rattle.std.specs.Prelude.{◌≡◌, ◌+◌, ◌*◌, ◌≤◌, true, List, length}
use Rattle.state_rules.specs.Graphs.{IsGraph, edges}
use Rattle.node_store.specs.Stores.{HasNoBareChild}
use Rattle.clause_encoder.specs.Clauses.{ClauseList}
use Rattle.branch_states.specs.declared.measuring.TheConstants.{BUDGET_LIMIT}
use Rattle.elimination_forests.specs.declared.forks.Forks.{Forks}
use Rattle.elimination_forests.specs.declared.steps.Step.{Step}
use Rattle.elimination_forests.specs.declared.steps.Weight.TheVariants.{Lists}
use Rattle.elimination_forests.specs.Forests.{Forest, trees, steps_of, is_forest_of, root, sum_on, forest_sum, forks_on, width}
use Rattle.dnnf_compiler.specs.Compiled.{SaysAll}
use Rattle.dnnf_compiler.specs.declared.compiling.Compiled.{Compiled}

-- These are the steps of a forest of the clauses, and the forks along it. Its places have at most `BUDGET_LIMIT` lists in all.
pub record IsWay (list : ClauseList) (steps : List Step) (forks : List Forks) (forest : Forest) : Type 0 where
  pub steps_are : steps ≡ steps_of forest
  pub forest_is : is_forest_of forest list ≡ true
  pub forks_are : forks ≡ forks_on forest (root list.clauses)
  pub few : sum_on Lists forest (root list.clauses) ≤ BUDGET_LIMIT

-- What clauses are compiled to: a decomposable graph over their variables that is true exactly if all of them are. The number of lists
-- along the forest, and the greatest number of trees side by side, bound its size.
pub record IsCompiledAlong (forest : Forest) (list : ClauseList) (compiled : Compiled) : Type 0 where
  pub decomposable : IsGraph compiled.graph
  pub vars : compiled.graph.vars ≡ list.vars
  pub truth : SaysAll list.clauses compiled.graph
  pub no_bare_child : HasNoBareChild compiled.graph.nodes
  pub few_made : compiled.made ≤ 3 * forest_sum Lists forest list.clauses + 2
  -- No node is made for the root of the forest if at most one tree is on it.
  pub few_alone : trees forest ≤ 1 → compiled.made ≤ 3 * sum_on Lists forest (root list.clauses) + 2
  pub few_nodes : length compiled.graph.nodes ≤ compiled.made + 2 * list.vars
  pub few_edges : edges compiled.graph.nodes ≤ (4 + 2 * width forest) * forest_sum Lists forest list.clauses
