use Rattle.std.proofs.Common.{◌≡◌, ◌+◌, ◌*◌, length}
use Rattle.dnnf_compiler.specs.inner.Making.{Adds}
use Rattle.dnnf_compiler.proofs.WayNodes.{AreFirstChoices}
use Rattle.dnnf_compiler.proofs.maker.Maker.make_place.Given as goal

abbrev pub invariant-loop-list : goal.invariant-loop-list
invariant-loop-list l = record {
  adds : Adds l.fn.self l.self (3 * length l.nodes.items) ((4 + 2 * length l.below) * length l.nodes.items);
  long : length l.nodes.items ≡ l.list;
  right : AreFirstChoices l.fn.self l.self l.var l.below l.forks.zero.ways l.forks.one.ways l.nodes.items;
}
