use Rattle.std.proofs.Common.{◌≡◌, ℕ, ◌+◌, ◌-◌, ◌<◌, true, false, not, cond, length, get_or, Some, ap, ◌∙◌, arith}
use Rattle.std.specs.Prelude.{slice_get}
use Rattle.std.proofs.lemmas.List.Sums.{count_by_more_yes, sum_by_more}
use borrow.Author.Count.{below_more}
use Rattle.state_rules.specs.Bits.{bit_in}
use Rattle.conditioner.specs.Evidence.{bits_of}
use Rattle.conditioner.proofs.StateBits.{is_ok, is_faulty, faulty_word, ok_word}
use Rattle.diagnosis_lister.proofs.OpenMarks.{length-bits}
use Rattle.probe_report.specs.Verdicts.{blame_of}
use Rattle.probe_report.proofs.ModelsWithBit.{bit-in}
use Rattle.fault_graph.proofs.PresumedParts.{presumed-stays}
use Rattle.fault_graph.proofs.Written.{slice_get-set_other, written-next, not_open}
use Rattle.fault_graph.proofs.blaming.confirm.Goals as goal
use Rattle.fault_graph.proofs.blaming.confirm.Goals.{then-is_faulty+then-is_open, else-is_faulty, else-is_faulty-via-then-is_faulty+else-is_open, else-is_faulty-via-else-is_faulty}

pub blame_faulty-requires-clause-faulty : goal.blame_faulty-requires-clause-faulty
blame_faulty-requires-clause-faulty g c =
    let faulty : bit_in (bits_of c.args.state.now) (c.loop-part.part + 1 - 1) ≡ false = grind (arith, is_faulty, faulty_word) in
    rw c.loop-part.invariant.evidence
    (bit-in c.args.graph.now c.args.evidence.now c.args.costs.now (c.loop-part.part + 1 - 1) false (omega (arith, c.requires.state)) c.args.fewest c.requires.parts c.requires.least (bits_of c.args.state.now) c.requires.diagnosis faulty)

pub loop-part-preserved : goal.loop-part-preserved
loop-part-preserved g c =
    let graph = c.args.graph.now in
    let evidence = c.args.evidence.now in
    let costs = c.args.costs.now in
    let state = c.args.state.now in
    let i = c.loop-part.part in
    let here : i < length state = omega arith in
    let bits : length (bits_of state) ≡ length state = length-bits state in
    elim c.if-is_faulty.branch [
      | then-is_faulty+then-is_open w ↦
          let found = w.blame_faulty.result in
          let back : i + 1 - 1 ≡ i = omega arith in
          let faulty : bit_in (bits_of state) i ≡ false = is_faulty state i here (faulty_word _ _ c.is_faulty.ensures w.if-is_faulty.true) in
          record {
            evidence = w.evidence-is ∙ w.blame_faulty.ensures.evidence ∙ c.loop-part.invariant.evidence;
            done = rw w.verdicts-is (written-next c.loop-part.verdicts i found (λ (k : ℕ). blame_of graph evidence costs k) (omega (arith, c.loop-part.auto.verdicts, c.requires.verdicts, c.requires.state)) c.loop-part.invariant.done
                (w.blame_faulty.ensures.blame ∙ (λ j. blame_of graph (c.loop-part.invariant.evidence j) costs (back j))));
            left = λ k le. rw w.verdicts-is (slice_get-set_other c.loop-part.verdicts i k found (λ e. absurd (omega arith)) ∙ c.loop-part.invariant.left k (omega arith));
            steps = omega (arith, w.steps-is, w.blame_faulty.ensures.steps, c.loop-part.invariant.steps, count_by_more_yes not (bits_of state) i false (omega arith) (ap not faulty));
          }
      | else-is_faulty w ↦
          let ok : get_or evidence i 0 ≡ 0 → bit_in (bits_of state) i ≡ true = λ e. elim w.else-is_faulty.branch [
            | else-is_faulty-via-then-is_faulty+else-is_open v ↦ absurd (not_open _ v.is_open.ensures v.if-is_open.false (ap (λ ws. get_or ws i 0) c.loop-part.invariant.evidence ∙ e))
            | else-is_faulty-via-else-is_faulty v ↦ is_ok state i here (ok_word _ _ c.is_faulty.ensures v.if-is_faulty.false)
          ] in
          let stays = presumed-stays graph evidence costs i c.args.fewest (omega (arith, c.requires.state)) c.requires.parts c.requires.long c.requires.least c.args.verdicts.now (bits_of state) c.requires.diagnosis ok
          (c.requires.presumed i (omega (arith, c.requires.state))) in
          record {
            evidence = w.evidence-is ∙ c.loop-part.invariant.evidence;
            done = rw w.verdicts-is (below_more (λ (k : ℕ). slice_get c.loop-part.verdicts k ≡ Some (blame_of graph evidence costs k)) i c.loop-part.invariant.done (c.loop-part.invariant.left i (omega arith) ∙ stays));
            left = λ k le. rw w.verdicts-is (c.loop-part.invariant.left k (omega arith));
            steps = omega (arith, w.steps-is, c.loop-part.invariant.steps, sum_by_more (λ b. cond (not b) 1 0) (bits_of state) i false (omega arith));
          }
    ]
