use Rattle.std.proofs.Common.{◌≡◌, ℕ, ◌+◌, ◌<◌, ◌≤◌, cond, get_or}
use Rattle.state_rules.specs.Bits.{bit_in, same_bit}
use Rattle.clause_answers.proofs.probing.note.Given as goal

abbrev pub invariant-loop-wire : goal.invariant-loop-wire
invariant-loop-wire l = record {
  list : (i : ℕ) → i < l.wire → get_or l.list i 0 ≡ cond (same_bit l.bit (bit_in l.bits (l.parts + i))) l.least (get_or l.fn.list i 0);
  other : (i : ℕ) → i < l.wire → get_or l.other i 0 ≡ cond (same_bit l.bit (bit_in l.bits (l.parts + i))) (get_or l.fn.other i 0) l.least;
  left : (i : ℕ) → l.wire ≤ i → get_or l.list i 0 ≡ get_or l.fn.list i 0;
  left_other : (i : ℕ) → l.wire ≤ i → get_or l.other i 0 ≡ get_or l.fn.other i 0;
}
