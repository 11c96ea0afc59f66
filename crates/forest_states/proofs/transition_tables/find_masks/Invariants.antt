use Rattle.std.proofs.Common.{◌<◌, take}
use Rattle.forest_states.specs.inner.TransitionTables.{spread}
use Rattle.forest_states.specs.inner.Masked.{IsMasked}
use Rattle.forest_states.proofs.transition_tables.find_masks.Given as goal

abbrev pub invariant-loop-change : goal.invariant-loop-change
invariant-loop-change l = record {
  few : l.masks.len < 64;
  masked : IsMasked l.masks (spread (take l.change-index l.changes) 0);
}
