use Rattle.std.proofs.Common.{◌≡◌, map, take}
use Rattle.flattener.specs.inner.Expanding.{position_of}
use Rattle.flattener.proofs.expanding.read_positions.Given as goal

abbrev pub invariant-loop-wire : goal.invariant-loop-wire
invariant-loop-wire l = l.positions.items ≡ map (position_of l.passed l.start) (take l.wire-index l.args)
