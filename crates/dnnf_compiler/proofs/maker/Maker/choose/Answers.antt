use Rattle.std.proofs.Common.{arith}
use Rattle.std.specs.Prelude.{option_map}
use Rattle.dnnf_compiler.proofs.Bare.{named_plain}
use Rattle.dnnf_compiler.proofs.WayNodes.{usable_grows, choice_one}
use Rattle.dnnf_compiler.proofs.maker.Maker.choose.Goals as goal

pub take-requires-2-clause-way : goal.take-requires-2-clause-way
take-requires-2-clause-way c = usable_grows _ _ c.args.var c.args.below.now (option_map (λ numbers. numbers.now) c.args.one) c.in_ok-first.ensures.adds.grows c.requires.one

pub join-requires-clause-plain_zero : goal.join-requires-clause-plain_zero
join-requires-clause-plain_zero c = let most = c.take-2.new.self.store in grind (arith, named_plain most.vars most.nodes, c.in_ok-second.ensures.adds, c.in_ok-first.ensures)

pub join-requires-clause-plain_one : goal.join-requires-clause-plain_one
join-requires-clause-plain_one c = let most = c.take-2.new.self.store in grind (arith, named_plain most.vars most.nodes, c.in_ok-second.ensures)

pub returns : goal.returns
returns c = choice_one _ _ _ _ _ _ _ _ _ _ _ c.requires.zero c.requires.one c.in_ok-first.ensures c.in_ok-second.ensures c.in_ok-node.ensures
