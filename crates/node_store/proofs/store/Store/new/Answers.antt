use Rattle.std.proofs.Common.{◌≡◌, ap, ◌∙◌, arith}
use Rattle.node_store.specs.Stores.{literals}
use Rattle.node_store.proofs.Literals.{literals_store}
use Rattle.node_store.proofs.store.Store.new.Goals as goal

pub invariant_of-result : goal.invariant_of-result
invariant_of-result c =
    let all : c.loop-before.before ≡ c.args.vars = omega arith in
    literals_store _ _ (c.loop-before.invariant.all ∙ ap literals all) c.requires c.loop-before.invariant.once

pub returns-clause-valid : goal.returns-clause-valid
returns-clause-valid c =
    let all : c.loop-before.before ≡ c.args.vars = omega arith in
    literals_store _ _ (c.loop-before.invariant.all ∙ ap literals all) c.requires c.loop-before.invariant.once
