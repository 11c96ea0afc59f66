use Rattle.std.proofs.Common.{◌≡◌, ◌+◌, ◌≤◌, length, true}
use Rattle.std.specs.List.{sum_by}
use Rattle.text_rules.specs.TextLines.{all_lines}
use Rattle.text_rules.specs.declared.text_lines.TheConstants.{TEXT_LIMIT}
use Rattle.component_lang.specs.Reading.{design, design_from}
use Rattle.component_lang.specs.inner.Sections.{reader_in}
use Rattle.component_lang.specs.inner.Sound.{is_sound, reader_size}
use Rattle.component_lang.proofs.reading.read_lang.Given as goal

abbrev pub invariant-loop-line : goal.invariant-loop-line
invariant-loop-line l =
    let reader = reader_in l.library l.section in
    let left = all_lines l.line-iterator in
    record {
      can_next : goal.iterator-loop-line.can_next l.line-iterator;
      is_finite : goal.iterator-loop-line.is_finite l.line-iterator;
      same : design l.text ≡ design_from (l.number + 1) left reader;
      sound : is_sound reader ≡ true;
      numbered : l.number + length left ≤ TEXT_LIMIT;
      few : reader_size reader + sum_by length left ≤ TEXT_LIMIT;
    }
