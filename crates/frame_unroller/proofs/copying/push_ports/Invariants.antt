use Rattle.std.proofs.Common.{◌≡◌, ◌+◌, ◌++◌, map, take}
use Rattle.frame_unroller.proofs.copying.push_ports.Given as goal

abbrev pub invariant-loop-wire : goal.invariant-loop-wire
invariant-loop-wire l = l.ports.items ≡ l.initial.ports.items ++ map (λ wire. l.from + wire) (take l.wire-index l.wires)
