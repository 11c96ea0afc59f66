use Rattle.std.proofs.Common.{◌≡◌, length, ap, subst, arith}
use Rattle.std.specs.Prelude.{IfOk}
use Rattle.clause_encoder.specs.Encoding.{clause_list}
use Rattle.frame_unroller.specs.declared.unrolling.Unrolled.{Unrolled}
use Rattle.frame_unroller.specs.Unrolling.{frame_device}
use Rattle.frame_unroller.proofs.Wires.{length-wires}
use Rattle.frame_unroller.proofs.unrolling.unroll.Goals as goal

pub copies_over-requires-clause-few_wires : goal.copies_over-requires-clause-few_wires
copies_over-requires-clause-few_wires c = grind arith

pub unroll_by-requires-clause-few_wires : goal.unroll_by-requires-clause-few_wires
unroll_by-requires-clause-few_wires c = grind (arith, length-wires c.args.seq.now.device.wires c.args.frames, ap length c.in_ok-copies.ensures.1.wires_are)

pub returns-clause-describes : goal.returns-clause-describes
returns-clause-describes c = rw c.in_ok-copies.ensures.0 at c.unroll_by.ensures.describes

pub returns-clause-whole : goal.returns-clause-whole
returns-clause-whole c =
    subst (λ frames. IfOk c.unroll_by.result (λ (made : Unrolled). length made.cnf.clauses ≡ length (clause_list (frame_device c.args.seq.now frames)).clauses))
    c.in_ok-copies.ensures.0 c.unroll_by.ensures.whole
