use Rattle.std.proofs.Common.{◌∷◌, refl, ap}
use Rattle.std.specs.Prelude.{decimal, slice_index}
use Rattle.nnf_text.proofs.Extended.{extends_on, extends_three, extends_each, extends_all}
use Rattle.smooth_nnf.proofs.lines.add_and.Goals as goal

pub loop-child-preserved : goal.loop-child-preserved
loop-child-preserved g c =
    extends_each (λ child. 32 ∷ decimal (slice_index c.args.drawing.now.lines child)) c.args.kids.now c.loop-child.child-index 0 _ _ _ _ _ _ _ c.loop-child.invariant c.add_count-in-loop-child.ensures
    (ap (λ n. 32 ∷ decimal n) c.line.ensures) c.loop-child-test.true

pub returns : goal.returns
returns g c =
    extends_on _ _ _ _ _ _ _ _ _ c.add.ensures
    (extends_three _ _ _ _ _ _ _ _ _ _ _ _ c.add_count.ensures (extends_all (λ child. 32 ∷ decimal (slice_index c.args.drawing.now.lines child)) c.args.kids.now c.loop-child.child-index _ _ _ _ c.loop-child.invariant c.loop-child-test.false) c.add-2.ensures refl) refl
