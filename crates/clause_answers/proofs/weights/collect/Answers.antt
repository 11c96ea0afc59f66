use Rattle.std.proofs.Common.{◌≡◌, ◌+◌, true, get_or, ℤ, pos, refl, arith}
use Rattle.std.proofs.lemmas.Int.{to_z-of_z}
use Rattle.std.proofs.lemmas.Grind.{common_steps}
use Rattle.clause_search.specs.Searching.{holds, false_weight}
use Rattle.clause_answers.specs.inner.Weighing.{unit_if_false}
use Rattle.clause_answers.proofs.Collected.{weight-push, grown-trans, some-given, some-moved}
use Rattle.clause_answers.proofs.weights.collect.Goals as goal

pub loop-literal-preserved-then-is_given : goal.loop-literal-preserved-then-is_given
loop-literal-preserved-then-is_given c = record {
  grown = c.loop-literal.invariant.grown;
  short = c.loop-literal.invariant.short;
  parts = c.loop-literal.invariant.parts;
  moved = c.loop-literal.invariant.moved;
  some = λ a k t f.
      let l : ℤ = get_or c.args.core.now c.loop-literal.literal-index (pos 0) in
      let given : holds a l ≡ true = grind (arith, common_steps, to_z-of_z, c.is_given.ensures c.if-is_given.true a k t) in
      some-given a c.args.core.now c.loop-literal.literal-index (false_weight a c.loop-literal.moved.items) (pos 0) l c.loop-literal-test.true refl given (c.loop-literal.invariant.some a k t) f;
}

pub loop-literal-preserved : goal.loop-literal-preserved
loop-literal-preserved c =
    let l : ℤ = get_or c.args.core.now c.loop-literal.literal-index (pos 0) in
    record {
      grown = grown-trans _ _ _ c.loop-literal.invariant.grown c.lessen.ensures.grown;
      short = grind (arith, common_steps);
      parts = grind (arith, common_steps);
      moved = λ a k. grind (
        arith,
        to_z-of_z,
        c.push_reserved.ensures.items,
        c.lessen.ensures.lessened c.if-not-lessen.false a k,
        c.loop-literal.invariant.moved a (c.lessen.ensures.grown.kept a k),
        weight-push a c.loop-literal.moved.items,
      );
      some = λ a k t f.
          let pushed : false_weight a c.push_reserved.new.self.items ≡ false_weight a c.loop-literal.moved.items + unit_if_false a l = grind (arith, common_steps, to_z-of_z, weight-push a c.loop-literal.moved.items) in
          some-moved a c.args.core.now c.loop-literal.literal-index (false_weight a c.loop-literal.moved.items) _ (pos 0) l c.loop-literal-test.true refl pushed (c.loop-literal.invariant.some a k t) f;
    }
