-- Lemmas by which the check finds the rest of what functions require and ensure.
use Rattle.std.proofs.Common.{append_assoc}
use Rattle.std.proofs.lemmas.Int.{to_z-of_z}
use Rattle.std.proofs.lemmas.List.{length-map, get_or_read}
use Rattle.clause_encoder.proofs.Literals.{tidy-append, length-tidy, with_literal-there, with_literal-absent}
use Rattle.clause_encoder.proofs.OtherVariables.{list_from, clause-at, clause-within}
use Rattle.clause_encoder.proofs.WrittenClauses.{passed, shifted_far, arity-taken}
use Rattle.clause_encoder.proofs.ClauseCounts.{length-table, table-counts, length-parity, few-rows, length-any_gate}
use Rattle.clause_encoder.proofs.DeviceClauses.{are_clauses, describes}

pub ruleset replaced_clauses = (list_from, clause-at, clause-within)

pub ruleset written_clauses = (passed, tidy-append, append_assoc)

pub ruleset device_arities = (arity-taken, length-map)

pub ruleset counted_tables = (shifted_far, table-counts, length-table)

pub ruleset counted_gates = (length-parity, few-rows, length-any_gate)

pub ruleset encoded_clauses = (length-tidy, are_clauses, describes)

pub ruleset inserted_literals = (with_literal-there, with_literal-absent, to_z-of_z, get_or_read)
