-- The least costs of the first nodes of a graph.
use Rattle.std.specs.Prelude.{◌≡◌, ℕ, Option, List, map, take, length}
use Rattle.state_rules.specs.Numbers.{cost_in}
use Rattle.state_rules.specs.Values.{values}
use Rattle.state_rules.specs.Graphs.{Graph}
use Rattle.minimiser.specs.Costs.{node_cost, known_at, part_cost}

-- the least costs at the first `i` nodes of a graph
unfoldable pub costs_to : Graph → List ℕ → List ℕ → ℕ → List (Option ℕ)
costs_to graph evidence costs i = values (node_cost (known_at evidence) (part_cost costs)) (take i graph.nodes)

-- the numbers are the least costs at all nodes
abbrev pub AreLeastCosts : Graph → List ℕ → List ℕ → List ℕ → Type 0
AreLeastCosts graph evidence costs numbers = map cost_in numbers ≡ costs_to graph evidence costs (length graph.nodes)
