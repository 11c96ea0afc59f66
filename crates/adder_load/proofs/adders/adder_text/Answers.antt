use Rattle.std.proofs.Common.{append_assoc}
use Rattle.adder_load.specs.Adders.{place_lines}
use Rattle.adder_load.proofs.Texts.{left_more}
use Rattle.adder_load.proofs.adders.adder_text.Goals as goal

pub loop-place-preserved : goal.loop-place-preserved
loop-place-preserved c = rw (c.in_ok-add_place.ensures, append_assoc, ← left_more place_lines c.args.places c.loop-place.place c.loop-place-test.true) c.loop-place.invariant
