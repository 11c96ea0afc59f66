use Rattle.std.proofs.Common.{◌≡◌}
use Rattle.system_edge.proofs.CallSequences.{WroteTo}
use Rattle.system_edge.proofs.adapters.StdSinkSink.put.Given as goal

abbrev pub invariant-loop : goal.invariant-loop
invariant-loop g l = (l.self.faults ≡ l.fn.self.faults) × WroteTo (g.W.Write.contents l.fn.self.out) (g.W.Write.contents l.self.out) l.bytes l.rest
