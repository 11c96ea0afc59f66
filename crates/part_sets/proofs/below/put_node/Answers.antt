use Rattle.std.proofs.Common.{refl, arith, inl, inr}
use Rattle.part_sets.proofs.Children.{literal-fits}
use Rattle.part_sets.proofs.JoinedSets.{joined_parts, variable_parts}
use Rattle.part_sets.proofs.below.put_node.Goals as goal

pub put_variable-requires-clause-var : goal.put_variable-requires-clause-var
put_variable-requires-clause-var c = (literal-fits c.args.graph.now c.args.at _ c.kids-kids.ensures.valid c.requires.at refl c.in-Literal.var c.in-Literal.positive c.in-Literal.ensures.what).0

pub returns-in-Literal : goal.returns-in-Literal
returns-in-Literal c = variable_parts c.args.graph.now c.args.at c.args.parts _ c.kids-kids.ensures.valid c.requires.at refl c.in-Literal.var c.in-Literal.positive c.put_variable.new.set c.in-Literal.ensures.what c.put_variable.ensures

pub returns-in-And : goal.returns-in-And
returns-in-And c = joined_parts c.args.graph.now c.args.at c.args.parts _ c.kids-kids.ensures.valid c.requires.at c.kids-kids.ensures.kids c.args.earlier.now c.put_joined.new.set _ c.requires.long (omega arith) c.requires.earlier (inl c.in-And.ensures.what) c.put_joined.ensures

pub returns-in-Or : goal.returns-in-Or
returns-in-Or c = joined_parts c.args.graph.now c.args.at c.args.parts _ c.kids-kids.ensures.valid c.requires.at c.kids-kids.ensures.kids c.args.earlier.now c.put_joined-in-Or.new.set _ c.requires.long (omega arith) c.requires.earlier (inr c.in-Or.ensures.what) c.put_joined-in-Or.ensures
