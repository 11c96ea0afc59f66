use Rattle.std.proofs.Common.{◌≡◌, ◌≤◌, map, length, take}
use Rattle.state_rules.specs.Numbers.{cost_in}
use Rattle.smooth_nnf.specs.Layouts.{cheapest_children}
use Rattle.smooth_nnf.proofs.places.cheapest_count.Given as goal

-- those of the children so far
abbrev pub invariant-loop-child : goal.invariant-loop-child
invariant-loop-child l = record {
  count : l.count ≡ length (cheapest_children (map cost_in l.values) l.cost (take l.child-index l.kids));
  most : l.count ≤ l.child-index;
}
