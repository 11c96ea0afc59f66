use Rattle.std.proofs.Common.{◌∙◌, Ok}
use Rattle.diag_cli.specs.Besides.{if_few}
use Rattle.diag_cli.specs.inner.Bits.{levels_bits, least_bits}
use Rattle.diag_cli.proofs.FewBits.{few_pass, if_ok_map}
use Rattle.diag_cli.proofs.besides.check_bits.Goals as goal

pub returns-clause-few : goal.returns-clause-few
returns-clause-few c = λ sum has.
    let extras = c.args.options.extras in
    let parts = c.args.parts in
    let list = c.args.cnf.now in
    let same = c.in_ok-sum.ensures.sum sum has in
    let first = rw (c.levels_bits.ensures, same, c.vars.ensures.vars) at c.in_ok-few_bits.ensures.few in
    if_ok_map c.few_bits-2.result
    (λ t second.
    few_pass (levels_bits sum list.vars parts extras.levels) (if_few (least_bits sum list.vars parts extras.least) (Ok (record { list = list; sum = sum }))) first
    ∙ few_pass (least_bits sum list.vars parts extras.least) (Ok (record { list = list; sum = sum })) (rw (c.least_bits.ensures, same, c.vars-2.ensures.vars) at second))
    c.few_bits-2.ensures.few
