use Rattle.std.proofs.Common.{ℕ, Ok, ap, refl, subst, length}
use Rattle.std.specs.Result.{result_and}
use Rattle.std.proofs.lemmas.Result.{err_from_is_err_and}
use Rattle.text_rules.specs.Expected.{Fulfils}
use Rattle.diag_cli.specs.Besides.{in_few_bits}
use Rattle.device_files.specs.Choices.{Weighed, clauses_by}
use Rattle.device_files.specs.Weighing.{within}
use Rattle.device_files.specs.Refusals.{refusal_output}
use Rattle.diag_cli.proofs.FewBits.{fault_through, fulfils_through}
use Rattle.device_files.proofs.ForestChoices.{by_any, has_sum, list_gives}
use Rattle.diag_cli.proofs.ServedDevices.{all_servable}
use Rattle.diag_cli.proofs.besides.graph_in_few_bits.Goals as goal

pub returns-in_err-cnf-clause-within : goal.returns-in_err-cnf-clause-within
returns-in_err-cnf-clause-within c =
    let p = err_from_is_err_and c.from_residual.result c.from_residual.ensures.1 in
    let options = c.args.options in
    let device = c.args.device.now in
    rw (p.1, p.2) (by_any (λ choose.
    fault_through (λ clauses. result_and (in_few_bits options.extras (length device.parts) clauses) (Ok device)) (λ output. refl) (refusal_output c.in_err-cnf.field-0.0)
    (within options.budget (clauses_by options.narrow choose device)) (c.in_err-cnf.ensures.fault choose options.budget)))

pub returns-clause-within : goal.returns-clause-within
returns-clause-within c =
    let options = c.args.options in
    let device = c.args.device.now in
    let cnf = c.in_ok-cnf.cnf in
    let result = c.compile_in_few_bits.result in
    list_gives options.narrow device cnf c.in_ok-cnf.forest c.in_ok-cnf.ensures.list c.in_ok-cnf.ensures.forest
    (λ clauses. Fulfils (λ _. device) refusal_output (result_and (in_few_bits options.extras (length device.parts) (within options.budget clauses)) (Ok device)) result)
    (λ sum has.
    let weighed : Weighed = record { list = cnf; sum = sum } in
    fulfils_through (λ few. result_and few (Ok device)) weighed device refl (λ output. refl) (in_few_bits options.extras (length device.parts) (within options.budget (Ok weighed))) result
    (subst (λ (parts : ℕ). Fulfils (λ _. weighed) refusal_output (in_few_bits options.extras parts (within options.budget (Ok weighed))) result) (ap length c.parts.ensures.parts) (c.compile_in_few_bits.ensures.list sum has)))

pub returns-clause-servable : goal.returns-clause-servable
returns-clause-servable c =
    let some = has_sum c.in_ok-cnf.cnf c.args.options.narrow c.in_ok-cnf.forest c.in_ok-cnf.ensures.forest in
    let made = c.compile_in_few_bits.ensures in
    all_servable c.args.device.now c.in_ok-cnf.cnf c.in_ok-cnf.ensures.list c.args.options.budget some.0 c.requires.budget c.compile_in_few_bits.result
    (made.within some.0 some.1) (made.graph some.0 some.1)
