use Rattle.std.proofs.Common.{◌+◌, length, ap}
use Rattle.adder_load.proofs.NotedReadings.{noted}
use Rattle.adder_load.proofs.readings.note.Goals as goal

pub returns-in-Some : goal.returns-in-Some
returns-in-Some c =
    noted c.args.device.now c.args.evidence.now c.requires.evidence c.args.name.now c.args.bit c.in-Some.wire (length c.parts.result.now + c.in-Some.wire + 1) c.fix.new.evidence
    c.in-Some.ensures (ap (λ parts. length parts + c.in-Some.wire + 1) c.parts.ensures.parts) c.fix.ensures.fixed
