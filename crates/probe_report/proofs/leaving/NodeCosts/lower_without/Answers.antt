use Rattle.std.proofs.Common.{◌*◌, ◌+◌, arith, inl, inr}
use Rattle.std.proofs.lemmas.Bool.{cases_lt}
use Rattle.probe_report.proofs.leaving.NodeCosts.lower_without.Goals as goal
use Rattle.probe_report.proofs.leaving.NodeCosts.lower_without.Goals.{then-is_some_open, else-is_some_open}

pub loop-block-preserved : goal.loop-block-preserved
loop-block-preserved g c =
    let now = c.loop-block.invariant in
    elim c.if-is_some_open.branch [
      | then-is_some_open w ↦
          let new = w.lower_block.ensures in
          record {
            done = λ i h l open_. rw w.list-is (elim (cases_lt i (c.loop-block.block * 64)) [
              | inl before ↦ rw (new.others i (omega arith) (inl before)) (now.done i before (omega arith) open_)
              | inr here ↦ rw (now.left i here (omega arith)) at (new.inside i here (omega arith) (omega arith))
            ]);
            left = λ i h l. rw (w.list-is, new.others i (omega arith) (inr (omega arith))) (now.left i (omega arith) (omega arith));
            sweeps = omega arith;
          }
      | else-is_some_open w ↦ record {
        done = λ i h l open_. rw w.list-is (elim (cases_lt i (c.loop-block.block * 64)) [
          | inl before ↦ now.done i before (omega arith) open_
          | inr here ↦ absurd (c.is_some_open.ensures w.if-is_some_open.false (c.args.parts + i) (omega arith) (omega arith) open_)
        ]);
        left = λ i h l. rw w.list-is (now.left i (omega arith) (omega arith));
        sweeps = omega arith;
      }
    ]
