use Rattle.std.proofs.Common.{refl, ◌∙◌, arith}
use Rattle.component_lang.proofs.RowSets.{row-zero, row-one, bits-more}
use Rattle.component_lang.proofs.types.row_in.Goals as goal
use Rattle.component_lang.proofs.types.row_in.Goals.{in-48, in-49}

pub loop-place-preserved : goal.loop-place-preserved
loop-place-preserved c =
    elim c.match-byte.branch [
      | in-48 w ↦ record {
        number = w.row-is ∙ row-zero c.args.word.now c.loop-place.place c.loop-place.row c.loop-place-test.true w.in-48.is c.loop-place.invariant.number;
        bits = bits-more c.args.word.now c.loop-place.place 48 c.loop-place-test.true w.in-48.is refl c.loop-place.invariant.bits;
      }
      | in-49 w ↦ record {
        number = w.row-is ∙ row-one c.args.word.now c.loop-place.place c.loop-place.row c.loop-place-test.true (omega arith) w.in-49.is c.loop-place.invariant.number;
        bits = bits-more c.args.word.now c.loop-place.place 49 c.loop-place-test.true w.in-49.is refl c.loop-place.invariant.bits;
      }
    ]
