use Rattle.std.proofs.Common.{◌≡◌, ◌≤◌, ◌+◌, ◌*◌, length, drop}
use Rattle.clause_encoder.specs.Encoding.{clauses_from, raw_count}
use Rattle.clause_encoder.proofs.WrittenClauses.{inner_at}
use Rattle.clause_encoder.proofs.encoding.raw_count.Given as goal

-- what is counted, and what the parts left add
abbrev pub invariant-loop-part : goal.invariant-loop-part
invariant-loop-part l = record {
  counted : l.count + length (clauses_from l.device (l.part-index + 1) (inner_at l.device l.part-index) (drop l.part-index l.device.parts)) ≡ raw_count l.device;
  few : l.count ≤ 256 * l.part-index;
}
