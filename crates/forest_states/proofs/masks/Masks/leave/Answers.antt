use Rattle.std.proofs.Common.{sym, arith}
use Rattle.forest_states.specs.inner.TransitionTables.{in_one}
use Rattle.forest_states.specs.inner.Descents.{picked}
use Rattle.forest_states.proofs.BitRuns.{length-picked}
use Rattle.forest_states.proofs.masks.Masks.leave.Goals as goal

pub of_word-requires : goal.of_word-requires
of_word-requires c =
    let left = in_one c.requires.met.0 c.requires.are_true.0 in
    let it = c.pick_row-word.ensures left (c.without-left.ensures c.requires.met.0 c.requires.are_true.0 c.requires.met.1 c.requires.are_true.1) in
    record {
      few = omega (arith, it.1, length-picked c.args.self.now.kept left, c.requires.few);
      word = (picked c.args.self.now.kept left, (sym it.1, it.0));
    }
