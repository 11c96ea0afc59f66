use Rattle.std.proofs.Common.{◌≡◌}
use Rattle.device_model.specs.Devices.{part_names}
use Rattle.device_model.proofs.device.Device.take_names.Given as goal

-- the names of the parts so far
abbrev pub invariant-loop-part : goal.invariant-loop-part
invariant-loop-part l = l.names.items ≡ part_names l.yielded
