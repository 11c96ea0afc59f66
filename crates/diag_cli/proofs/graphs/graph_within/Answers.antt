use Rattle.std.proofs.lemmas.Result.{err_from_is_err_and}
use Rattle.device_files.specs.Weighing.{within}
use Rattle.device_files.proofs.ForestChoices.{by_any, list_gives}
use Rattle.diag_cli.specs.inner.Compiling.{FulfilsGraph}
use Rattle.diag_cli.proofs.ServedDevices.{found_or_refused}
use Rattle.diag_cli.proofs.graphs.graph_within.Goals as goal

pub returns-in_err-cnf : goal.returns-in_err-cnf
returns-in_err-cnf c =
    let p = err_from_is_err_and c.from_residual.result c.from_residual.ensures.1 in
    rw (p.1, p.2) (by_any (λ choose. c.in_err-cnf.ensures.fault choose c.args.budget))

pub returns : goal.returns
returns c =
    let of = c.in_ok-cnf.ensures.list in
    list_gives c.args.is_narrow c.args.device.now c.in_ok-cnf.cnf c.in_ok-cnf.forest of c.in_ok-cnf.ensures.forest (λ clauses. FulfilsGraph c.args.device.now (within c.args.budget clauses) c.compiled_within.result)
    (λ sum has. found_or_refused c.args.device.now c.in_ok-cnf.cnf of c.args.budget sum c.requires c.compiled_within.result
    (c.compiled_within.ensures.list sum has) (c.compiled_within.ensures.within sum has) (c.compiled_within.ensures.graph sum has))
