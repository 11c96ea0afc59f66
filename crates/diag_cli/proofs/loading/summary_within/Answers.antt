use Rattle.std.proofs.Common.{false, None, sym, subst, arith}
use Rattle.std.specs.Result.{result_map_both}
use Rattle.std.proofs.lemmas.Result.{err_from_is_err_and}
use Rattle.text_rules.specs.Expected.{IsExpectedFault}
use Rattle.branch_states.specs.Branches.{sum_of}
use Rattle.device_files.specs.Choices.{weighed_by, clauses_by}
use Rattle.device_files.specs.Refusals.{refusal_output}
use Rattle.device_files.specs.Weighing.{within}
use Rattle.diag_cli.specs.declared.words.TheConstants.{DEFAULT_BUDGET}
use Rattle.diag_cli.specs.Loads.{summary_by}
use Rattle.diag_cli.proofs.LoadedAdders.{refusal_told}
use Rattle.diag_cli.proofs.ServedDevices.{servable}
use Rattle.diag_cli.proofs.loading.summary_within.Goals as goal

pub returns-in_err-cnf-clause-summary : goal.returns-in_err-cnf-clause-summary
returns-in_err-cnf-clause-summary c =
    let p = err_from_is_err_and c.from_residual.result c.from_residual.ensures.1 in
    rw (p.1, p.2) (refusal_told (summary_by c.args.places c.args.device) (refusal_output c.in_err-cnf.field-0.0)
    (within DEFAULT_BUDGET (clauses_by false (λ list. None) c.args.device)) (c.in_err-cnf.ensures.fault false (λ list. None) DEFAULT_BUDGET))

pub returns-in_err-graph-clause-summary : goal.returns-in_err-graph-clause-summary
returns-in_err-graph-clause-summary c =
    let p = err_from_is_err_and c.from_residual-in_err-graph.result c.from_residual-in_err-graph.ensures.1 in
    let fault = refusal_output c.in_err-graph.field-0.0 in
    rw (p.1, p.2) (refusal_told (summary_by c.args.places c.args.device) fault (within DEFAULT_BUDGET (clauses_by false (λ list. None) c.args.device))
    (subst (λ list. IsExpectedFault fault (within DEFAULT_BUDGET (result_map_both (weighed_by false (λ other. None)) (λ error. error) list))) (sym c.in_ok-cnf.ensures.list.encoded) c.in_err-graph.ensures.fault))

pub summary_by-requires-clause-graph : goal.summary_by-requires-clause-graph
summary_by-requires-clause-graph c =
    let of = c.in_ok-cnf.ensures.list in
    servable c.args.device c.in_ok-cnf.cnf of.encoded c.in_ok-graph.graph (sum_of c.in_ok-cnf.cnf.clauses) of.valid of.describes (omega (arith, c.in_ok-graph.ensures.within)) c.in_ok-graph.ensures.graph
