use Rattle.std.proofs.Common.{refl, arith}
use Rattle.nnf_text.proofs.Extended.{extends_range}
use Rattle.smooth_nnf.specs.inner.Texts.{word_text}
use Rattle.smooth_nnf.proofs.filling.add_fillers.Goals as goal

pub loop-word-preserved : goal.loop-word-preserved
loop-word-preserved g c =
    let text = word_text c.args.drawing.now c.args.node c.args.over in
    extends_range text 0 c.loop-word.word c.loop-word.word _ _ _ _ _ _ (text c.loop-word.word) c.loop-word.invariant c.add_word_fillers.ensures refl (omega arith)
