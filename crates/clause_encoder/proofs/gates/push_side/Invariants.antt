use Rattle.std.proofs.Common.{◌≡◌, ◌-◌, ◌^◌, ◌++◌, ◌∷◌, not, map, length}
use Rattle.std.specs.Prelude.{if◌then◌else◌}
use Rattle.std.specs.List.{range_with_len, filter}
use Rattle.state_rules.specs.Bits.{has_bit}
use Rattle.clause_encoder.specs.Clauses.{literal}
use Rattle.clause_encoder.specs.Encoding.{tidy, row_bits, blocking_literals, blocked_rows}
use Rattle.clause_encoder.proofs.gates.push_side.Given as goal

-- what is written, and what the rows left add
abbrev pub invariant-loop-row : goal.invariant-loop-row
invariant-loop-row l =
    l.writer.clauses ++ tidy (map (λ r. literal (not l.ok) l.health ∷ blocking_literals l.ports (row_bits r l.ports)) (filter (λ r. not (has_bit (if l.ok then l.table.ok else l.table.bad) r)) (range_with_len l.row (2 ^ length l.ports - l.row))))
    ≡ l.fn.writer.clauses ++ tidy (blocked_rows l.ok (if l.ok then l.table.ok else l.table.bad) l.health l.ports)
