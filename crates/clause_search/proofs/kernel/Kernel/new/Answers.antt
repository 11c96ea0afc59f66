use Rattle.std.proofs.Common.{arith}
use Rattle.clause_search.proofs.kernel.Kernel.new.Goals as goal

pub invariant_of-result : goal.invariant_of-result
invariant_of-result c = record {
  valid = grind (arith, c.vars-vars.ensures.valid, c.vars-vars.ensures.vars, c.in_ok-copied.ensures);
  given = grind arith;
  learned = λ a k. grind (arith, c.in_ok-with_room.ensures);
  even = grind (arith, c.new.ensures.rules, c.in_ok-definitions.ensures);
  ordered = grind (arith, c.new.ensures.ordered c.vars-vars.result, c.requires, c.vars-vars.ensures.vars);
}
