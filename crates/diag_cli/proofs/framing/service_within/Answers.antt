use Rattle.std.proofs.Common.{◌≡◌, ℕ, [], Ok, length, ap, refl, sym, subst, ◌∙◌, arith}
use Rattle.std.specs.Result.{result_and}
use Rattle.std.proofs.lemmas.Result.{err_from_is_err_and}
use Rattle.text_rules.specs.Expected.{IsExpectedFault}
use Rattle.state_rules.specs.Ranking.{plain_costs}
use Rattle.device_files.specs.Choices.{weighed_by}
use Rattle.device_files.specs.Weighing.{within}
use Rattle.device_files.specs.Refusals.{refusal_output}
use Rattle.device_files.proofs.ForestChoices.{by_any, has_sum}
use Rattle.diag_cli.specs.Besides.{in_few_bits}
use Rattle.diag_cli.proofs.FewBits.{fault_through}
use Rattle.graph_engine.specs.Served.{served_system}
use Rattle.diag_cli.proofs.ServedFrames.{not_unrolled_told, unrolled_gives, many_parts, many_costs, frames_answer}
use Rattle.diag_cli.proofs.framing.service_within.Goals as goal

pub returns-in-Err-clause-within : goal.returns-in-Err-clause-within
returns-in-Err-clause-within c =
    by_any (λ choose. not_unrolled_told c.args.seq.now c.args.frames c.args.options (weighed_by c.args.options.narrow choose) c.in-Err.error _ c.not_unrolled.ensures c.in-Err.ensures.unrolled)

pub returns-in_err-forest-clause-within : goal.returns-in_err-forest-clause-within
returns-in_err-forest-clause-within c =
    let p = err_from_is_err_and c.from_residual.result c.from_residual.ensures.1 in
    rw (p.1, p.2) (by_any (λ choose. tt))

pub returns-in_err-costs-clause-within : goal.returns-in_err-costs-clause-within
returns-in_err-costs-clause-within c =
    let p = err_from_is_err_and c.from_residual-in_err-costs.result c.from_residual-in_err-costs.ensures.1 in
    rw (p.1, p.2) (by_any (λ choose. tt))

pub returns-clause-within : goal.returns-clause-within
returns-clause-within c = by_any (λ choose. tt)

pub compile_in_few_bits-requires-clause-sum : goal.compile_in_few_bits-requires-clause-sum
compile_in_few_bits-requires-clause-sum c = has_sum c.in-Ok.made.cnf c.args.options.narrow c.in_ok-forest.forest c.in_ok-forest.ensures

pub compile_in_few_bits-requires-clause-vars : goal.compile_in_few_bits-requires-clause-vars
compile_in_few_bits-requires-clause-vars c = omega (arith, c.in-Ok.ensures.valid.few_vars)

pub returns-in_err-graph-clause-within : goal.returns-in_err-graph-clause-within
returns-in_err-graph-clause-within c =
    let p = err_from_is_err_and c.from_residual-in_err-graph.result c.from_residual-in_err-graph.ensures.1 in
    let seq = c.args.seq.now in
    let options = c.args.options in
    let cnf = c.in-Ok.made.cnf in
    let fault = refusal_output c.in_err-graph.field-0.0 in
    rw (p.1, p.2) (unrolled_gives seq c.args.frames options c.in-Ok.made c.in-Ok.ensures.unrolled c.in_ok-forest.forest c.in_ok-forest.ensures (λ expected. IsExpectedFault fault expected)
    (λ sum has. fault_through (λ few. result_and few (Ok seq)) (λ output. refl) fault (in_few_bits options.extras (length seq.device.parts) (within options.budget (Ok (record { list = cnf; sum = sum }))))
    (subst (λ (parts : ℕ). IsExpectedFault fault (in_few_bits options.extras parts (within options.budget (Ok (record { list = cnf; sum = sum }))))) (ap length c.parts-count.ensures.parts) (c.in_err-graph.ensures.list sum has))))

pub over-requires-clause-costs : goal.over-requires-clause-costs
over-requires-clause-costs c =
    let costs = c.in_ok-costs.ensures.costs ∙ ap (λ ps. plain_costs (length ps)) c.parts-count.ensures.parts in
    omega (arith, many_costs c.args.seq.now c.args.frames c.in-Ok.made c.in-Ok.ensures.unrolled c.in-Ok.ensures.valid c.in_ok-costs.costs.items costs, ap length c.into_vec.ensures)

pub over-requires-clause-vars : goal.over-requires-clause-vars
over-requires-clause-vars c =
    let some = has_sum c.in-Ok.made.cnf c.args.options.narrow c.in_ok-forest.forest c.in_ok-forest.ensures in
    omega (arith, c.in-Ok.ensures.valid.room, ap length c.into_vec.ensures, ap length c.into_vec-2.ensures, (c.in_ok-graph.ensures.graph some.0 some.1).vars)

pub over-requires-clause-few_vars : goal.over-requires-clause-few_vars
over-requires-clause-few_vars c =
    let some = has_sum c.in-Ok.made.cnf c.args.options.narrow c.in_ok-forest.forest c.in_ok-forest.ensures in
    omega (arith, c.in-Ok.ensures.valid.few_vars, (c.in_ok-graph.ensures.graph some.0 some.1).vars)

pub over-requires-clause-few_nodes : goal.over-requires-clause-few_nodes
over-requires-clause-few_nodes c =
    let some = has_sum c.in-Ok.made.cnf c.args.options.narrow c.in_ok-forest.forest c.in_ok-forest.ensures in
    omega (arith, c.in-Ok.ensures.valid.few_vars, (c.in_ok-graph.ensures.graph some.0 some.1).few_nodes, c.in_ok-graph.ensures.within some.0 some.1, c.requires.options.budget)

pub over-requires-clause-levels : goal.over-requires-clause-levels
over-requires-clause-levels c =
    let same = ap length c.into_vec.ensures ∙ many_parts c.args.seq.now c.args.frames c.in-Ok.made c.in-Ok.ensures.unrolled c.in-Ok.ensures.valid ∙ sym (ap length c.parts-count.ensures.parts) in
    rw same c.in_ok-graph.ensures.told.levels

pub over-requires-clause-least : goal.over-requires-clause-least
over-requires-clause-least c = λ asked.
    let same = ap length c.into_vec.ensures ∙ many_parts c.args.seq.now c.args.frames c.in-Ok.made c.in-Ok.ensures.unrolled c.in-Ok.ensures.valid ∙ sym (ap length c.parts-count.ensures.parts) in
    rw same (c.in_ok-graph.ensures.told.least asked)

pub returns-in-Ok-over-clause-within : goal.returns-in-Ok-over-clause-within
returns-in-Ok-over-clause-within c =
    let seq = c.args.seq.now in
    let options = c.args.options in
    let cnf = c.in-Ok.made.cnf in
    unrolled_gives seq c.args.frames options c.in-Ok.made c.in-Ok.ensures.unrolled c.in_ok-forest.forest c.in_ok-forest.ensures (λ expected. expected ≡ Ok seq)
    (λ sum has. ap (λ few. result_and few (Ok seq)) ((λ i. in_few_bits options.extras (length (sym c.parts-count.ensures.parts i)) (within options.budget (Ok (record { list = cnf; sum = sum })))) ∙ c.in_ok-graph.ensures.list sum has))

pub returns-in-Ok-over-clause-service : goal.returns-in-Ok-over-clause-service
returns-in-Ok-over-clause-service c =
    let options = c.args.options in
    let some = has_sum c.in-Ok.made.cnf options.narrow c.in_ok-forest.forest c.in_ok-forest.ensures in
    let costs = c.in_ok-costs.ensures.costs ∙ ap (λ ps. plain_costs (length ps)) c.parts-count.ensures.parts in
    frames_answer c.args.seq.now c.args.frames c.in-Ok.made c.in-Ok.ensures.unrolled c.in-Ok.ensures.valid c.in-Ok.ensures.describes
    c.in_ok-graph.graph some.0 (c.in_ok-graph.ensures.graph some.0 some.1)
    options c.in_ok-costs.costs.items _ costs
    (c.in-Ok-over.ensures ∙ (λ i. record {
      system = served_system (record { parts = c.into_vec.ensures i; wires = c.into_vec-2.ensures i; costs = c.in_ok-costs.costs.items; graph = c.in_ok-graph.graph; extras = options.extras });
      limit = options.sessions;
      table = [];
    }))
