use Rattle.std.proofs.Common.{◌+◌, ◌<◌, ◌≤◌, refl, length, None, arith}
use Rattle.std.specs.List.{flat_map, enumerate_from}
use Rattle.std.proofs.lemmas.List.{length-map}
use Rattle.std.proofs.lemmas.List.FromFn.{length-enumerate_from}
use Rattle.nnf_text.proofs.Extended.{extends_each, extends_all, extends_same}
use Rattle.conditioner.specs.Evidence.{known_of, known}
use Rattle.projector.specs.inner.Lines.{held_line}
use Rattle.projector.proofs.Lines.{held_line-at}
use Rattle.projector.proofs.projection.Projection.add_held.Goals as goal

pub loop-i-preserved : goal.loop-i-preserved
loop-i-preserved g c =
    let health = c.health-health.result.now in
    let below : c.loop-i.i < length (enumerate_from 1 (known health)) = omega (arith, length-enumerate_from 1 (known health), length-map health known_of) in
    extends_each held_line (enumerate_from 1 (known health)) c.loop-i.i (0, None) _ _ _ _ _ _ (held_line (c.loop-i.i + 1, c.known_of.result)) c.loop-i.invariant c.add_known.ensures
    (held_line-at health c.loop-i.i (c.loop-i.i + 1) c.known_of.result c.loop-i-test.true refl c.known_of.ensures) below

pub returns : goal.returns
returns g c =
    let health = c.health-health.result.now in
    let past : length (enumerate_from 1 (known health)) ≤ c.loop-i.i = omega (arith, length-enumerate_from 1 (known health), length-map health known_of, c.loop-i-test.false) in
    extends_same _ _ _ _ _ _ (extends_all held_line (enumerate_from 1 (known health)) c.loop-i.i _ _ _ _ c.loop-i.invariant past) (λ i. flat_map held_line (enumerate_from 1 (known (c.health-health.ensures i))))
