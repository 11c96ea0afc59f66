use Rattle.std.proofs.Common.{◌≡◌, ◌≤◌, ◌*◌, length, take, true, false}
use Rattle.elimination_forests.specs.Branches.{different}
use Rattle.forest_states.specs.inner.Descents.{successor, decided_forks}
use Rattle.forest_states.proofs.Sets.{reached}
use Rattle.forest_states.proofs.places.decide.Given as goal

abbrev pub invariant-loop-at : goal.invariant-loop-at
invariant-loop-at l = record {
  few : length l.next.lists ≤ 2 * l.at;
  size : l.next.size ≡ l.size;
  next : l.next.lists ≡ different (reached (successor false l.table) (successor true l.table) l.states.lists l.at);
  leads : l.keep ≡ true → l.leads.items ≡ take l.at (decided_forks l.table l.states.lists);
}
