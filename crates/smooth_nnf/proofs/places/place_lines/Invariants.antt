use Rattle.std.proofs.Common.{◌≡◌, ◌*◌, map, length, take}
use Rattle.state_rules.specs.Numbers.{cost_in}
use Rattle.smooth_nnf.specs.Layouts.{own_lines}
use Rattle.smooth_nnf.specs.inner.Drawings.{lines_after}
use Rattle.smooth_nnf.proofs.places.place_lines.Given as goal

-- the lines of the nodes so far
abbrev pub invariant-loop-at : goal.invariant-loop-at
invariant-loop-at l = record {
  long : length l.lines ≡ length l.fn.lines;
  places : take l.at l.lines ≡ own_lines (map cost_in l.values) (2 * l.parts) 0 (take l.at l.graph.nodes);
  line : l.line ≡ lines_after (map cost_in l.values) (2 * l.parts) 0 (take l.at l.graph.nodes);
}
