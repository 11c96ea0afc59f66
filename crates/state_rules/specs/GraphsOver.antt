-- Graphs over parts and wires.
use Rattle.std.specs.Prelude.{◌≡◌, ℕ, ◌+◌, ◌-◌, ◌≤◌, Bool, List, ◌++◌, length}
use Rattle.std.specs.List.{list_any}
use Rattle.state_rules.specs.Bits.{lists_of_bits}
use Rattle.state_rules.specs.Graphs.{Graph, holds}

-- whether a graph is true under these bits for the parts and the wires, and some bits for the variables after theirs
abbrev pub holds_for : Graph → List Bool → List Bool → Bool
holds_for graph state wires =
    list_any (λ inner. holds graph (state ++ wires ++ inner)) (lists_of_bits (graph.vars - (length state + length wires)))

-- The variables are `parts` parts, then `wires` wires, then inner ones. The graph is true, with some inner bits, exactly if bits of the
-- parts and wires fit.
pub record IsGraphOver (parts wires : ℕ) (fits_by : List Bool → List Bool → Bool) (graph : Graph) : Type 0 where
  pub room : parts + wires ≤ graph.vars
  pub meaning : (state bits : List Bool) → length state ≡ parts → length bits ≡ wires → holds_for graph state bits ≡ fits_by state bits
