use Rattle.std.proofs.Common.{◌≡◌, length-append, arith}
use Rattle.std.proofs.lemmas.List.{length-map}
use Rattle.std.proofs.lemmas.List.FromFn.{length-range_with_len}
use Rattle.frame_unroller.specs.Unrolling.{shared_variables}
use Rattle.frame_unroller.proofs.SharedVariables.{variable-within}
use Rattle.frame_unroller.proofs.unrolling.shared.Goals as goal

pub replaced-requires-clause-some : goal.replaced-requires-clause-some
replaced-requires-clause-some c = λ k d lt. grind (arith, length-append, length-map, length-range_with_len, variable-within c.args.parts c.args.list.now.vars c.args.places.now c.requires.many c.requires.places k d)

pub replaced-requires-clause-within : goal.replaced-requires-clause-within
replaced-requires-clause-within c = λ k d lt. grind (arith, length-append, length-map, length-range_with_len, variable-within c.args.parts c.args.list.now.vars c.args.places.now c.requires.many c.requires.places k d)

pub returns-clause-truth : goal.returns-clause-truth
returns-clause-truth c =
    let made : c.deref.result.now ≡ shared_variables c.args.parts c.args.places.now c.args.list.now.vars = grind arith in
    rw (← made) c.replaced.ensures.truth
