use Rattle.std.proofs.Common.{◌≡◌, take, length}
use Rattle.std.specs.List.{flat_map}
use Rattle.text_rules.specs.Tokens.{spaced}
use Rattle.nnf_text.specs.Extending.{Extends}
use Rattle.nnf_text.specs.WrittenGraphs.{node_words}
use Rattle.nnf_text.proofs.writing.add_nodes.Given as goal

-- the lines of the nodes before this one are added
abbrev pub invariant-loop-node : goal.invariant-loop-node
invariant-loop-node g l =
    let O = g.O.Sink in
    record {
      added : Extends (O.shown l.fn.out) (O.shown l.out) l.fn.text l.text (flat_map (λ node. spaced (node_words node)) (take l.node l.graph.nodes));
      end : l.node-end ≡ length l.graph.nodes;
    }
