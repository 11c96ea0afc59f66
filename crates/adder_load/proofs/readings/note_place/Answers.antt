use Rattle.std.proofs.Common.{◌%◌}
use Rattle.adder_load.proofs.NotedReadings.{notes-append, is_zero}
use Rattle.adder_load.proofs.readings.note_place.Goals as goal

pub returns : goal.returns
returns c =
    rw (← c.signal.ensures, ← c.signal-2.ensures, ← c.signal-3.ensures, ← is_zero c.is_multiple_of.result (c.args.place % 16) c.is_multiple_of.ensures)
    (notes-append c.args.device.now c.args.evidence.now c.note.new.evidence c.note-3.new.evidence _ _ c.note.ensures
    (notes-append c.args.device.now c.note.new.evidence c.note-2.new.evidence c.note-3.new.evidence _ _ c.note-2.ensures c.note-3.ensures))
