use Rattle.std.proofs.Common.{◌≡◌, ◌-◌, ◌^◌, ◌++◌, map, length}
use Rattle.std.specs.List.{range_with_len}
use Rattle.state_rules.specs.Bits.{same_bit, has_odd_ones}
use Rattle.clause_encoder.specs.Encoding.{parity_clauses, tidy, row_clause, row_bits}
use Rattle.clause_encoder.proofs.gates.push_parity.Given as goal

-- what is written, and what the rows left add
abbrev pub invariant-loop-row : goal.invariant-loop-row
invariant-loop-row l =
    l.writer.clauses ++ tidy (map (λ r. row_clause l.health l.inputs l.output (row_bits r l.inputs) (same_bit l.odd (has_odd_ones (row_bits r l.inputs)))) (range_with_len l.row (2 ^ length l.inputs - l.row)))
    ≡ l.fn.writer.clauses ++ tidy (parity_clauses l.odd l.health l.inputs l.output)
