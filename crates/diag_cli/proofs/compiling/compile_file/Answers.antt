use Rattle.std.proofs.Common.{refl, Result, Ok, Err}
use Rattle.device_files.specs.Refusals.{refusal_output}
use Rattle.diag_cli.proofs.WholeGraphs.{graph_gives}
use Rattle.device_files.specs.Choices.{clauses_by}
use Rattle.device_files.proofs.ForestChoices.{by_any, by_same}
use Rattle.device_files.proofs.KeptRefusals.{refused_told, within_refused}
use Rattle.diag_cli.proofs.compiling.compile_file.Goals as goal

pub returns-in-Ok-write_nnf-clause-said : goal.returns-in-Ok-write_nnf-clause-said
returns-in-Ok-write_nnf-clause-said g c =
    let found = c.in-Ok-graph_within.ensures in
    let wrote = c.write_nnf.ensures in
    let put : Result (Unit {0}) (Unit {0}) = Ok tt in
    by_same found (λ choose graph.
    graph_gives c.args.path.now c.args.file.now c.args.budget (clauses_by c.args.is_narrow choose) _ _ _ _ _ _ put _ c.vars.ensures.vars c.in-Ok.ensures graph.1.1
    graph.0 graph.1.2.vars graph.1.2.few_nodes wrote.neat wrote.read c.in-Ok-write_nnf.ensures.bytes refl)

pub returns-clause-said : goal.returns-clause-said
returns-clause-said g c =
    let found = c.in-Ok-graph_within.ensures in
    let wrote = c.write_nnf.ensures in
    let put : Result (Unit {0}) (Unit {0}) = Err tt in
    by_same found (λ choose graph.
    graph_gives c.args.path.now c.args.file.now c.args.budget (clauses_by c.args.is_narrow choose) _ _ _ _ _ _ put _ c.vars.ensures.vars c.in-Ok.ensures graph.1.1
    graph.0 graph.1.2.vars graph.1.2.few_nodes wrote.neat wrote.read c.in-Err-write_nnf.ensures.bytes refl)

pub returns-in-Err-graph_within-clause-said : goal.returns-in-Err-graph_within-clause-said
returns-in-Err-graph_within-clause-said g c =
    by_same c.in-Err-graph_within.ensures (λ choose fault.
    within_refused c.args.budget (clauses_by c.args.is_narrow choose) _ _ _ (refusal_output c.in-Err-graph_within.refusal) _ _ _ c.in-Ok.ensures fault c.tell-in-Err-graph_within.ensures.said)

pub returns-in-Err-clause-said : goal.returns-in-Err-clause-said
returns-in-Err-clause-said g c =
    by_any (λ choose.
    refused_told _ _ (refusal_output c.in-Err.refusal) _ _ _ c.in-Err.ensures c.tell.ensures.said)
