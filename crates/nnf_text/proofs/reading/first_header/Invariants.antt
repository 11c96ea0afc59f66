use Rattle.std.proofs.Common.{◌≡◌, ◌+◌, ◌≤◌, length}
use Rattle.text_rules.specs.declared.text_lines.TheConstants.{TEXT_LIMIT}
use Rattle.text_rules.specs.TextLines.{all_lines}
use Rattle.nnf_text.specs.GraphTexts.{parsed_lines}
use Rattle.nnf_text.specs.inner.Reading.{filled_from}
use Rattle.nnf_text.proofs.reading.first_header.Given as goal

-- the lines so far were blank
abbrev pub invariant-loop-line : goal.invariant-loop-line
invariant-loop-line l = record {
  same : parsed_lines (filled_from 1 (all_lines l.fn.lines)) ≡ parsed_lines (filled_from (l.number + 1) (all_lines l.lines));
  numbered : l.number + length (all_lines l.lines) ≤ TEXT_LIMIT;
}

abbrev pub decreases-loop-line : goal.decreases-loop-line
decreases-loop-line l = length (all_lines l.lines)
