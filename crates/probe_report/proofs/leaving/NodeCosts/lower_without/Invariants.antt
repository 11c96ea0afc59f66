use Rattle.std.proofs.Common.{◌≡◌, ℕ, ◌+◌, ◌*◌, ◌<◌, ◌≤◌, length, get_or}
use Rattle.probe_report.specs.inner.Outside.{IsLowered, Without}
use Rattle.probe_report.proofs.leaving.NodeCosts.lower_without.Given as goal

-- the wires so far
abbrev pub invariant-loop-block : goal.invariant-loop-block
invariant-loop-block g l = record {
  done : (i : ℕ) → i < l.block * 64 → i < length l.list → get_or l.evidence (l.parts + i) 0 ≡ 0
      → IsLowered (Without l.self.graph.now.nodes l.self.values.now l.self.outside.now (l.parts + i + 1)) (get_or l.fn.list i 0) (get_or l.list i 0);
  left : (i : ℕ) → l.block * 64 ≤ i → i < length l.list → get_or l.list i 0 ≡ get_or l.fn.list i 0;
  sweeps : l.steps ≤ l.fn.steps + l.block;
}
