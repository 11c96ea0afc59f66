use Rattle.std.proofs.Common.{◌≡◌, ◌++◌, map, take}
use Rattle.flattener.specs.inner.Expanding.{behind}
use Rattle.flattener.proofs.expanding.push_wires.Given as goal

abbrev pub invariant-loop-name : goal.invariant-loop-name
invariant-loop-name l = record {
  same : l.prefix.items ≡ l.initial.prefix.items;
  wires : l.wires.items ≡ l.initial.wires.items ++ map (behind l.initial.prefix.items) (take l.name-index l.names);
}
