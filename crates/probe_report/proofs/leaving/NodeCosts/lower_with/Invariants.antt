use Rattle.std.proofs.Common.{ℕ, ◌+◌, ◌<◌, length, get_or}
use Rattle.probe_report.specs.inner.Outside.{IsLowered, AtLiteral}
use Rattle.probe_report.proofs.leaving.NodeCosts.lower_with.Given as goal

-- the literals so far
abbrev pub invariant-loop-at : goal.invariant-loop-at
invariant-loop-at l = (i : ℕ) → i < length l.list
    → IsLowered (λ cost. (node : ℕ) × (node < l.at) × AtLiteral l.self.graph.now.nodes l.self.outside.now (l.parts + i + 1) l.bit node cost) (get_or l.fn.list i 0) (get_or l.list i 0)
