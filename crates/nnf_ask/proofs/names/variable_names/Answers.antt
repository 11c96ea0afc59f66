use Rattle.std.proofs.Common.{◌+◌, ◌++◌, [], ◌∷◌, length, refl, ap, sym, ◌∙◌, arith}
use Rattle.std.proofs.lemmas.List.FromFn.{map-range_with_len_more}
use Rattle.text_rules.specs.Names.{names_rise}
use Rattle.nnf_ask.specs.Asking.{five_digits}
use Rattle.nnf_ask.proofs.VariableNames.{variable_names-rise, length-variable_names}
use Rattle.nnf_ask.proofs.names.variable_names.Goals as goal

pub loop-place-preserved : goal.loop-place-preserved
loop-place-preserved c =
    let first = c.args.first in
    let place = c.loop-place.place in
    c.in_ok-push.ensures.items
    ∙ (λ k. c.loop-place.invariant k ++ (c.in_ok-new.ensures ∙ c.five_digits.ensures) k ∷ [])
    ∙ sym (map-range_with_len_more five_digits first place (first + place) refl)

pub returns-clause-rise : goal.returns-clause-rise
returns-clause-rise c = ap names_rise c.loop-place.invariant ∙ variable_names-rise c.args.first c.loop-place.place

pub returns-clause-many : goal.returns-clause-many
returns-clause-many c = omega (arith, ap length c.loop-place.invariant, length-variable_names c.args.first c.loop-place.place)
