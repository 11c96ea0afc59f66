use Rattle.std.proofs.Common.{◌+◌, sym, rules, add-one}
use Rattle.std.proofs.lemmas.List.{take_rest}
use Rattle.script_lang.proofs.WordLemmas.{at_equals-place, at_equals-none}
use Rattle.script_lang.proofs.cutting.at_equals.Goals as goal

pub returns-in_err-place : goal.returns-in_err-place
returns-in_err-place c = rw c.from_residual.ensures (sym (at_equals-none c.args.word.now (search rules)))

pub returns : goal.returns
returns c =
    let word = c.args.word.now in
    let place = c.in_ok-place.place in
    rw (take_rest word (place + 1), add-one place) (sym (at_equals-place word place (search rules) (search rules) (search rules)))
