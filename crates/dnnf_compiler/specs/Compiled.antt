-- What a graph says that is compiled from clauses.
use Rattle.std.specs.Prelude.{◌≡◌, ℕ, ◌+◌, ◌*◌, ◌-◌, ◌≤◌, List, length}
use Rattle.state_rules.specs.Assignments.{Assignment}
use Rattle.state_rules.specs.Graphs.{Graph, IsGraph, is_true, edges}
use Rattle.node_store.specs.Stores.{HasNoBareChild}
use Rattle.clause_encoder.specs.Clauses.{Clause, ClauseList, all_hold}
use Rattle.elimination_forests.specs.Branches.{sum_of}
use Rattle.dnnf_compiler.specs.declared.compiling.Compiled.{Compiled}

-- The root, which is the last node, is true exactly under the assignments that make all clauses true.
abbrev pub SaysAll : List Clause → Graph → Type 0
SaysAll clauses graph = (a : Assignment) → is_true graph.nodes (length graph.nodes - 1) a ≡ all_hold a clauses

-- a bound on the nodes of the graph of clauses with this sum and this number of variables
abbrev pub most_nodes : (sum vars : ℕ) → ℕ
most_nodes sum vars = 3 * sum + 2 * vars + 2

-- What clauses are compiled to: a decomposable graph over their variables that is true exactly if all of them are. Their sum bounds its
-- size.
pub record IsCompiled (list : ClauseList) (compiled : Compiled) : Type 0 where
  pub decomposable : IsGraph compiled.graph
  pub vars : compiled.graph.vars ≡ list.vars
  pub truth : SaysAll list.clauses compiled.graph
  -- No And node or Or node without children, which is a constant, is a child.
  pub no_bare_child : HasNoBareChild compiled.graph.nodes
  pub few_made : compiled.made ≤ 3 * sum_of list.clauses + 2
  pub few_nodes : length compiled.graph.nodes ≤ compiled.made + 2 * list.vars
  pub few_edges : edges compiled.graph.nodes ≤ 6 * (sum_of list.clauses + 1)
