use Rattle.std.proofs.Common.{◌≡◌}
use Rattle.fault_graph.proofs.SmallGraphs.{IsBuilt}
use Rattle.fault_graph.proofs.minimising.minimise.Given as goal

-- the nodes before `at` are done; the marks are the places at first
abbrev pub invariant-loop-at : goal.invariant-loop-at
invariant-loop-at g l = record {
  built : IsBuilt l.graph l.evidence l.costs l.values l.initial.places l.places l.nodes.nodes l.at;
  stays : l.nodes ≡ record l.fn.nodes { nodes = l.nodes.nodes };
}
