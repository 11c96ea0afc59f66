use Rattle.std.proofs.Common.{◌≡◌, ◌≤◌, ◌-◌, ◌++◌, drop}
use Rattle.forest_states.specs.inner.BitLists.{copied}
use Rattle.forest_states.proofs.bit_list.BitList.append.Given as goal

abbrev pub invariant-pieces : goal.invariant-pieces
invariant-pieces l = record {
  low : l.done ≤ l.count;
  bits : l.self ≡ l.fn.self ++ copied l.done (drop l.at l.from);
}

abbrev pub decreases-pieces : goal.decreases-pieces
decreases-pieces l = l.count - l.done
