use Rattle.std.proofs.Common.{arith, ℕ, ◌<◌, length}
use Rattle.diagnosis_lister.proofs.OpenMarks.{marked-bits}
use Rattle.diagnosis_lister.proofs.open_marks.mark.Goals as goal

pub returns : goal.returns
returns c =
    let each = λ (k : ℕ) (h : k < length c.args.state.now). c.loop-part.invariant.done k (omega arith) in
    record { each = each; marks = grind (arith, each); bits = marked-bits c.args.evidence.now c.args.state.now c.loop-part.state c.requires.small c.loop-part.auto.state each }
