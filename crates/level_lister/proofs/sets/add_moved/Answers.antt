use Rattle.std.proofs.Common.{◌≡◌, ◌+◌, ◌*◌, subst, sym, arith}
use Rattle.level_lister.specs.inner.CostSets.{AreSums}
use Rattle.level_lister.proofs.Sums.{sums_skip, sums_add}
use Rattle.level_lister.proofs.sets.add_moved.Goals as goal
use Rattle.level_lister.proofs.sets.add_moved.Goals.{then-has_number, else-has_number}

pub loop-bit-preserved : goal.loop-bit-preserved
loop-bit-preserved c =
    let number = 32 * c.args.i + c.loop-bit.bit in
    let next : number + 1 ≡ 32 * c.args.i + (c.loop-bit.bit + 1) = omega arith in
    subst (λ n. AreSums c.args.other.now c.args.moves.now n c.if-has_number.set) next (elim c.if-has_number.branch [
      | then-has_number w ↦ subst (AreSums c.args.other.now c.args.moves.now (number + 1)) (sym w.set-is)
          (sums_add c.args.other.now c.args.moves.now c.loop-bit.set w.add_shifted.new.set number (omega arith) c.loop-bit.invariant (sym w.if-has_number.ensures) w.add_shifted.ensures)
      | else-has_number w ↦ subst (AreSums c.args.other.now c.args.moves.now (number + 1)) (sym w.set-is)
          (sums_skip c.args.other.now c.args.moves.now c.loop-bit.set number c.loop-bit.invariant (sym w.if-has_number.ensures))
    ])
