use Rattle.std.proofs.Common.{◌≡◌, Ok, ap, sym, ◌∙◌}
use Rattle.std.proofs.lemmas.Result.{err_from_is_err_and}
use Rattle.text_rules.specs.Expected.{IsExpectedFault}
use Rattle.device_files.specs.Weighing.{within}
use Rattle.device_files.specs.Refusals.{refusal_output}
use Rattle.device_files.proofs.ForestChoices.{by_any, list_gives}
use Rattle.device_files.proofs.weighing.clauses_within.Goals as goal

pub returns-in_err-cnf : goal.returns-in_err-cnf
returns-in_err-cnf c =
    let p = err_from_is_err_and c.from_residual.result c.from_residual.ensures.1 in
    rw (p.1, p.2) (by_any (λ choose. c.in_err-cnf.ensures.fault choose c.args.budget))

pub returns-in_err-sum : goal.returns-in_err-sum
returns-in_err-sum c =
    let p = err_from_is_err_and c.from_residual-in_err-sum.result c.from_residual-in_err-sum.ensures.1 in
    rw (p.1, p.2) (list_gives c.args.is_narrow c.args.device.now c.in_ok-cnf.cnf c.in_ok-cnf.forest c.in_ok-cnf.ensures.list c.in_ok-cnf.ensures.forest
    (λ clauses. IsExpectedFault (refusal_output c.in_err-sum.field-0.0) (within c.args.budget clauses)) c.in_err-sum.ensures.list)

pub returns : goal.returns
returns c =
    list_gives c.args.is_narrow c.args.device.now c.in_ok-cnf.cnf c.in_ok-cnf.forest c.in_ok-cnf.ensures.list c.in_ok-cnf.ensures.forest
    (λ clauses. within c.args.budget clauses ≡ Ok (record { list = c.in_ok-cnf.cnf; sum = c.in_ok-sum.sum }))
    (λ sum has. c.in_ok-sum.ensures.list sum has ∙ ap (λ n. Ok (record { list = c.in_ok-cnf.cnf; sum = n })) (sym (c.in_ok-sum.ensures.sum sum has)))
