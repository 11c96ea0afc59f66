use Rattle.std.proofs.Common.{◌≡◌, ap, arith}
use Rattle.std.specs.List.{flat_map, range_with_len}
use Rattle.nnf_text.proofs.Extended.{extends_same}
use Rattle.smooth_nnf.specs.inner.Texts.{bit_text}
use Rattle.smooth_nnf.proofs.filling.add_bits.Goals as goal

pub returns : goal.returns
returns g c =
    let last : c.loop-b.b ≡ 32 = omega (arith, c.loop-b-test.false, c.loop-b.auto.b-end) in
    extends_same _ _ _ _ _ _ c.loop-b.invariant (ap (λ n. flat_map (bit_text c.args.drawing.now.evidence c.args.word c.args.bits) (range_with_len 0 n)) last)
