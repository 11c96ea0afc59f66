use Rattle.std.proofs.Common.{◌≡◌, ◌++◌, drop}
use Rattle.dnnf_compiler.specs.inner.Meeting.{taken, AreHeld}
use Rattle.dnnf_compiler.proofs.maker.taken.Given as goal

abbrev pub invariant-loop-i : goal.invariant-loop-i
invariant-loop-i l = record {
  so_far : l.kids.items ++ taken (drop l.i l.levels) (drop l.i l.numbers) ≡ l.fn.kids.items ++ taken l.levels l.numbers;
  held : AreHeld (drop l.i l.levels) (drop l.i l.numbers);
}
