use Rattle.std.proofs.Common.{◌+◌, ◌≤◌, map, length}
use Rattle.text_rules.specs.declared.text_lines.TheConstants.{TEXT_LIMIT}
use Rattle.text_rules.specs.TextLines.{all_lines}
use Rattle.bench_reader.specs.inner.Lines.{with_number}
use Rattle.bench_reader.proofs.Lines.{IsReadTo}
use Rattle.bench_reader.proofs.netlist.statements_in.Given as goal

abbrev pub invariant-loop-line : goal.invariant-loop-line
invariant-loop-line l =
    (l.number + length (all_lines l.line-iterator) ≤ TEXT_LIMIT)
    × IsReadTo l.flip_flops (l.number + 1) (all_lines l.text) (all_lines l.line-iterator) (map with_number l.statements.items)
