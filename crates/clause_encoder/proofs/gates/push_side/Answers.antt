use Rattle.std.specs.Prelude.{if◌then◌else◌}
use Rattle.std.proofs.Common.{◌≡◌, ℕ, ◌^◌, ◌++◌, [], ◌∷◌, not, cond, map, length, arith, ap}
use Rattle.std.proofs.lemmas.List.{append-nil}
use Rattle.state_rules.specs.Bits.{has_bit}
use Rattle.clause_encoder.specs.Clauses.{literal}
use Rattle.clause_encoder.specs.Encoding.{tidy, row_bits, blocking_literals}
use Rattle.clause_encoder.proofs.WrittenClauses.{passed, row_below, kept-more}
use Rattle.clause_encoder.proofs.gates.push_side.Goals as goal
use Rattle.clause_encoder.proofs.gates.push_side.Goals.{then-not-allows+in_ok-begin_row+in_ok-end, else-not-allows}

pub loop-row-preserved : goal.loop-row-preserved
loop-row-preserved c =
    let ports = c.args.ports.now in
    let row = c.loop-row.row in
    let few = row_below c.args.table.now row c.ports.result c.ports.ensures.valid c.ports.ensures.ports c.loop-row-test.true in
    let keep = λ (r : ℕ). not (has_bit (if c.args.ok then c.args.table.now.ok else c.args.table.now.bad) r) in
    let clause = λ (r : ℕ). literal (not c.args.ok) c.args.health ∷ blocking_literals ports (row_bits r ports) in
    let more : c.if-not-allows.writer.clauses ≡ c.loop-row.writer.clauses ++ tidy (map clause (cond (keep row) (row ∷ []) [])) = elim c.if-not-allows.branch [
      | then-not-allows+in_ok-begin_row+in_ok-end w ↦ grind (arith, passed)
      | else-not-allows w ↦ grind (arith, append-nil)
    ] in
    kept-more c.loop-row.writer.clauses c.if-not-allows.writer.clauses _ clause keep row (2 ^ length ports) (omega (arith, few, ap (λ n. 2 ^ n) c.requires.arity)) more c.loop-row.invariant
