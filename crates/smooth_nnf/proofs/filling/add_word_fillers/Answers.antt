use Rattle.nnf_text.proofs.Extended.{extends_same}
use Rattle.smooth_nnf.proofs.FilledTexts.{word-text}
use Rattle.smooth_nnf.proofs.filling.add_word_fillers.Goals as goal

pub returns : goal.returns
returns g c =
    extends_same _ _ _ _ _ _ c.add_bits.ensures (word-text c.args.drawing.now c.args.node c.args.over c.args.word c.missing_word-bits.result c.missing_word-bits.ensures)
