use Rattle.std.proofs.Common.{◌≡◌, ◌+◌, map, take}
use Rattle.clause_encoder.proofs.encoding.set_ports.Given as goal

abbrev pub invariant-loop-wire : goal.invariant-loop-wire
invariant-loop-wire l = l.ports.items ≡ map (λ wire. l.parts + wire + 1) (take l.wire-index l.wires)
