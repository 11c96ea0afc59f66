use Rattle.std.proofs.Common.{refl, Ok, ap, ◌∙◌}
use Rattle.std.proofs.lemmas.Result.{err_from_is_err_and}
use Rattle.diag_cli.specs.Besides.{in_few_bits}
use Rattle.device_files.specs.Weighing.{within}
use Rattle.device_files.specs.Refusals.{refusal_output}
use Rattle.diag_cli.proofs.FewBits.{fault_through, tells_in_few}
use Rattle.diag_cli.proofs.besides.compile_in_few_bits.Goals as goal

pub returns-in_err-graph-clause-list : goal.returns-in_err-graph-clause-list
returns-in_err-graph-clause-list c =
    let p = err_from_is_err_and c.from_residual-in_err-graph.result c.from_residual-in_err-graph.ensures.1 in
    let options = c.args.options in
    rw (p.1, p.2) (λ sum has.
    fault_through (in_few_bits options.extras c.args.parts) (λ output. refl) (refusal_output c.in_err-graph.field-0.0)
    (within options.budget (Ok (record { list = c.args.cnf.now; sum = sum }))) (c.in_err-graph.ensures.list sum has))

pub returns-clause-list : goal.returns-clause-list
returns-clause-list c = λ sum has.
    ap (in_few_bits c.args.options.extras c.args.parts) (c.in_ok-graph.ensures.list sum has) ∙ c.in_ok-check_bits.ensures.few sum has

pub returns-clause-told : goal.returns-clause-told
returns-clause-told c =
    let some = c.requires.sum in
    tells_in_few c.args.options.extras c.args.parts (record { list = c.args.cnf.now; sum = some.0 }) c.in_ok-graph.graph
    (c.in_ok-check_bits.ensures.few some.0 some.1) (c.in_ok-graph.ensures.graph some.0 some.1) c.in_ok-check_lines.ensures.few
