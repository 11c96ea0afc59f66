use Rattle.std.proofs.Common.{◌≡◌, ◌+◌, ◌++◌, map, take}
use Rattle.std.specs.List.{range_with_len}
use Rattle.frame_unroller.proofs.unrolling.shared.Given as goal

abbrev pub invariant-loop-place : goal.invariant-loop-place
invariant-loop-place l = l.variables.items ≡ map (λ place. place + 1) (take l.place-index l.places)

abbrev pub invariant-loop-other : goal.invariant-loop-other
invariant-loop-other l = l.variables.items ≡ map (λ place. place + 1) l.places ++ range_with_len (l.parts + 1) l.other
