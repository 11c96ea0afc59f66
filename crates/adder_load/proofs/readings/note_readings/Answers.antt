use Rattle.std.specs.List.{flat_map, range_with_len}
use Rattle.std.proofs.Common.{◌≡◌, ◌-◌, List, ◌++◌, ◌∷◌, [], false, append_assoc, arith}
use Rattle.adder_load.specs.Readings.{Reading, readings_at}
use Rattle.adder_load.proofs.Texts.{left_more}
use Rattle.adder_load.proofs.NotedReadings.{notes-append, zeros}
use Rattle.adder_load.proofs.readings.note_readings.Goals as goal

pub note-requires : goal.note-requires
note-requires c = record { evidence = zeros c.args.device.now c.args.evidence.now c.requires.none c.requires.room }

pub loop-place-init : goal.loop-place-init
loop-place-init c =
    let one : List Reading = (c.signal.result, false) ∷ [] in
    let two : List Reading = (c.signal-2.result, false) ∷ [] in
    let places : c.args.places - 0 ≡ c.args.places = omega arith in (
      one ++ two,
      notes-append c.args.device.now c.args.evidence.now c.note.new.evidence c.note-2.new.evidence one two c.note.ensures c.note-2.ensures,
      (λ i. (c.signal.ensures i, false) ∷ (c.signal-2.ensures i, false) ∷ flat_map readings_at (range_with_len 0 (places i))),
    )

pub loop-place-preserved : goal.loop-place-preserved
loop-place-preserved c =
    let so_far = c.loop-place.invariant in (
      so_far.0 ++ readings_at c.loop-place.place,
      notes-append c.args.device.now c.args.evidence.now c.loop-place.evidence c.note_place.new.evidence so_far.0 (readings_at c.loop-place.place) so_far.1 c.note_place.ensures,
      rw (append_assoc, ← left_more readings_at c.args.places c.loop-place.place c.loop-place-test.true) so_far.2,
    )
