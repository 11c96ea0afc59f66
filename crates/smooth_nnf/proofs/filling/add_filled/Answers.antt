use Rattle.std.proofs.Common.{◌+◌, ◌∷◌, ◌++◌, [], refl, ap, ◌∙◌}
use Rattle.std.specs.Prelude.{decimal}
use Rattle.nnf_text.proofs.Extended.{extends_on, extends_three}
use Rattle.smooth_nnf.specs.Layouts.{fillers}
use Rattle.smooth_nnf.specs.inner.Drawings.{missing_in}
use Rattle.smooth_nnf.specs.inner.Texts.{numbers_text}
use Rattle.smooth_nnf.proofs.FilledTexts.{filled-text}
use Rattle.smooth_nnf.proofs.filling.add_filled.Goals as goal

pub returns : goal.returns
returns g c =
    let d = c.args.drawing.now in
    let count = c.missing_count-count.result + 1 in
    let rest = numbers_text (fillers d.evidence d.parts (missing_in d c.args.over c.args.node)) ++ 10 ∷ [] in
    extends_on _ _ _ _ _ _ _ _ _ c.add.ensures
    (extends_on _ _ _ _ _ _ _ _ _ c.add_count.ensures (extends_three _ _ _ _ _ _ _ _ _ _ _ _ c.add_count-2.ensures c.add_fillers.ensures c.add-2.ensures refl) refl)
    ((λ i. 65 ∷ ((32 ∷ decimal count) ++ ((32 ∷ decimal (c.line-line.ensures i)) ++ rest))) ∙ filled-text d c.args.node c.args.over count (ap (λ n. n + 1) c.missing_count-count.ensures.count))
