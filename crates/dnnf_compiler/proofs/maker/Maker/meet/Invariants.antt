use Rattle.std.proofs.Common.{◌≡◌, ◌<◌, ◌++◌, length, drop}
use Rattle.std.specs.List.{filter, AllByRecursion}
use Rattle.dnnf_compiler.specs.inner.Joining.{IsPlain}
use Rattle.dnnf_compiler.proofs.Conjunctions.{keeps_of}
use Rattle.dnnf_compiler.proofs.maker.Maker.meet.Given as goal

abbrev pub invariant-loop-i : goal.invariant-loop-i
invariant-loop-i l = record {
  so_far : l.kept.items ++ filter (keeps_of l.fn.self) (drop l.i l.kids) ≡ filter (keeps_of l.fn.self) l.kids;
  plain : AllByRecursion (λ k. (k < length l.fn.self.store.nodes) × IsPlain l.fn.self.store.nodes k) l.kept.items;
}
