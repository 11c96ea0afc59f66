use Rattle.std.proofs.Common.{◌≡◌, ◌++◌, map, take}
use Rattle.frame_unroller.specs.Times.{wire_at}
use Rattle.frame_unroller.proofs.copying.push_wires.Given as goal

abbrev pub invariant-loop-wire : goal.invariant-loop-wire
invariant-loop-wire l = l.named.items ≡ l.initial.named.items ++ map (wire_at l.time) (take l.wire-index l.wires)
