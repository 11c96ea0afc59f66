use Rattle.std.proofs.Common.{◌≤◌, Ok}
use Rattle.std.specs.Prelude.{IfOk}
use Rattle.text_rules.specs.Expected.{Fulfils}
use Rattle.branch_states.specs.Branches.{sum_of}
use Rattle.elimination_forests.specs.declared.steps.Weight.TheVariants.{Lists}
use Rattle.elimination_forests.specs.Forests.{forest_sum}
use Rattle.device_files.specs.Refusals.{refusal_output}
use Rattle.device_files.specs.Weighing.{within}
use Rattle.diag_cli.specs.inner.Compiling.{IsGraphBy}
use Rattle.diag_cli.proofs.GraphsBy.{found_each, named_each, is_found, fulfils_within}
use Rattle.diag_cli.proofs.graphs.compiled_within.Goals as goal

pub compiled_along-requires-clause-found : goal.compiled_along-requires-clause-found
compiled_along-requires-clause-found c = is_found c.args.cnf.now c.args.forest.now c.in-Some.found c.in-Some.is c.requires.sum

pub returns-in-Some-clause-list : goal.returns-in-Some-clause-list
returns-in-Some-clause-list c =
    let list = c.args.cnf.now in
    let result = c.compiled_along.result in
    found_each list c.args.forest.now c.in-Some.found c.in-Some.is (λ sum. Fulfils (λ _. record { list = list; sum = sum }) refusal_output (within c.args.budget (Ok (record { list = list; sum = sum }))) result)
    (λ is. fulfils_within (record { list = list; sum = forest_sum Lists is.forest list.clauses }) c.args.budget result (c.compiled_along.ensures.within is) (c.compiled_along.ensures.fault is))

pub returns-in-Some-clause-within : goal.returns-in-Some-clause-within
returns-in-Some-clause-within c =
    found_each c.args.cnf.now c.args.forest.now c.in-Some.found c.in-Some.is (λ sum. IfOk c.compiled_along.result (λ _. sum ≤ c.args.budget)) c.compiled_along.ensures.within

pub returns-in-Some-clause-graph : goal.returns-in-Some-clause-graph
returns-in-Some-clause-graph c =
    found_each c.args.cnf.now c.args.forest.now c.in-Some.found c.in-Some.is (λ sum. IfOk c.compiled_along.result (IsGraphBy (record { list = c.args.cnf.now; sum = sum }))) c.compiled_along.ensures.graph

pub returns-in-None-clause-list : goal.returns-in-None-clause-list
returns-in-None-clause-list c =
    let list = c.args.cnf.now in
    let result = c.compiled_by_names.result in
    named_each list c.args.forest.now c.in-None.is (λ sum. Fulfils (λ _. record { list = list; sum = sum }) refusal_output (within c.args.budget (Ok (record { list = list; sum = sum }))) result)
    (fulfils_within (record { list = list; sum = sum_of list.clauses }) c.args.budget result c.compiled_by_names.ensures.within c.compiled_by_names.ensures.fault)

pub returns-in-None-clause-within : goal.returns-in-None-clause-within
returns-in-None-clause-within c =
    named_each c.args.cnf.now c.args.forest.now c.in-None.is (λ sum. IfOk c.compiled_by_names.result (λ _. sum ≤ c.args.budget)) c.compiled_by_names.ensures.within

pub returns-in-None-clause-graph : goal.returns-in-None-clause-graph
returns-in-None-clause-graph c =
    named_each c.args.cnf.now c.args.forest.now c.in-None.is (λ sum. IfOk c.compiled_by_names.result (IsGraphBy (record { list = c.args.cnf.now; sum = sum }))) c.compiled_by_names.ensures.graph
