-- The graph of the health states that a graph allows under evidence, and its text.
use Rattle.std.specs.Prelude.{ℕ, ◌-◌, Bool, List, [], ◌∷◌, ◌++◌, map, length, take, Option, Some, None, nat_le, slice_index, if◌then◌else◌}
use Rattle.std.specs.List.{filter_map, enumerate_from, range_with_len}
use Rattle.state_rules.specs.declared.nodes.NodeKind.{NodeKind}
use Rattle.state_rules.specs.declared.nodes.NodeKind.TheVariants.{Literal, And, Or}
use Rattle.state_rules.specs.Graphs.{Node, Graph, literal_node}
use Rattle.nnf_text.specs.WrittenGraphs.{graph_text}
use Rattle.conditioner.specs.declared.leaves.Leaf.{Leaf}
use Rattle.conditioner.specs.declared.leaves.Leaf.TheVariants.{True, False, Open}
use Rattle.conditioner.specs.Evidence.{known_of, known, leaf_of}

-- A literal, which has no children, becomes an And node if it is true, and an Or node if it is false. An open one stays if its variable is
-- a part's, and else becomes an And node, since the variable can have the bit that makes it true.
abbrev pub projected_literal : ℕ → ℕ → Bool → Leaf → NodeKind
projected_literal parts var positive True = And
projected_literal parts var positive False = Or
projected_literal parts var positive Open = if nat_le var parts then Literal positive var else And

-- what a node becomes under the evidence
abbrev pub projected_kind : List ℕ → ℕ → NodeKind → NodeKind
projected_kind evidence parts (Literal positive var) =
    projected_literal parts var positive (leaf_of positive (known_of (slice_index evidence (var - 1))))
projected_kind evidence parts And = And
projected_kind evidence parts Or = Or

-- children stay
abbrev pub projected_node : List ℕ → ℕ → Node → Node
projected_node evidence parts node = record { what = projected_kind evidence parts node.what; kids = node.kids }

-- the literal of a part of which something is known
abbrev pub held_literal : ℕ × Option Bool → Option Node
held_literal (part, None) = None
held_literal (part, Some ok) = Some (literal_node part ok)

-- the literals of all such parts, in order
abbrev pub held_literals : List ℕ → ℕ → List Node
held_literals evidence parts = filter_map held_literal (enumerate_from 1 (known (take parts evidence)))

-- an And node over the root of `nodes` nodes and the `literals` literals that follow them
abbrev pub root_with : ℕ → ℕ → Node
root_with nodes literals = record { what = And; kids = (nodes - 1) ∷ range_with_len nodes literals }

-- the nodes of a graph under the evidence, the literals of held parts, and an And node over its root and these
abbrev pub projection : Graph → List ℕ → ℕ → Graph
projection graph evidence parts =
    let held = held_literals evidence parts in
    record {
      nodes = map (projected_node evidence parts) graph.nodes ++ (held ++ root_with (length graph.nodes) (length held) ∷ []);
      vars = parts;
    }

abbrev pub projected_text : Graph → List ℕ → ℕ → List ℕ
projected_text graph evidence parts = graph_text (projection graph evidence parts)
