use Rattle.std.proofs.Common.{◌≡◌, take}
use Rattle.device_model.specs.Devices.{part_names}
use Rattle.frame_unroller.proofs.unrolling.names_of.Given as goal

abbrev pub invariant-loop-part : goal.invariant-loop-part
invariant-loop-part l = l.names.items ≡ part_names (take l.part-index l.parts)
