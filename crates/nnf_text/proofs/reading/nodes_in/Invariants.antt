use Rattle.std.proofs.Common.{◌≡◌, ◌+◌, ◌≤◌, [], length}
use Rattle.text_rules.specs.declared.text_lines.TheConstants.{TEXT_LIMIT}
use Rattle.text_rules.specs.TextLines.{all_lines}
use Rattle.nnf_text.specs.inner.Reading.{filled_from, nodes_behind}
use Rattle.nnf_text.proofs.reading.nodes_in.Given as goal

-- the result of all lines is that of the lines left after the nodes so far
abbrev pub invariant-loop-line : goal.invariant-loop-line
invariant-loop-line l = record {
  can_next : goal.iterator-loop-line.can_next l.line-iterator;
  is_finite : goal.iterator-loop-line.is_finite l.line-iterator;
  same : nodes_behind l.vars [] (filled_from (l.above + 1) (all_lines l.fn.lines)) ≡ nodes_behind l.vars l.nodes (filled_from (l.number + 1) (all_lines l.line-iterator));
  numbered : l.number + length (all_lines l.line-iterator) ≤ TEXT_LIMIT;
  few : length l.nodes ≤ l.number;
}
