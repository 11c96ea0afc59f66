use Rattle.std.proofs.Common.{◌≡◌, ◌+◌, ◌++◌, length}
use Rattle.std.specs.Prelude.{reverse}
use Rattle.dnnf_compiler.proofs.along.take_top.Given as goal

abbrev pub invariant-loop : goal.invariant-loop
invariant-loop l = record {
  are : reverse l.fn.stack.items ≡ l.top.items ++ reverse l.stack.items;
  many : length l.top.items ≡ l.counter;
  left : l.counter + length l.stack.items ≡ length l.fn.stack.items;
}
