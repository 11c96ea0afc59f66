use Rattle.std.specs.Io.KnownBytes.{Keeps}
use Rattle.system_edge.proofs.adapters.read_from.Given as goal

abbrev pub invariant-loop : goal.invariant-loop
invariant-loop g l = Keeps (g.R.Read.remaining l.fn.input) (g.R.Read.remaining l.input)
