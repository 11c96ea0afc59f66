-- Nodes in memory that was allocated before.
use Rattle.std.specs.Prelude.{ℕ, List}
use Rattle.state_rules.specs.Graphs.{Node}

-- nodes, with room for `node_room` nodes and `child_room` children of all of them
pub record Filled : Type 0 where
  pub nodes : List Node
  pub node_room : ℕ
  pub child_room : ℕ
