use Rattle.std.proofs.Common.{◌+◌, sym, ◌∙◌, subst, arith}
use Rattle.conditioner.specs.Models.{least_under}
use Rattle.minimiser.proofs.SpreadMarks.{IsLeastSuspect, some-least, ok-before, first-suspect, first-same, first-less}
use Rattle.minimiser.proofs.suspects.first_suspect.Goals as goal
use Rattle.minimiser.proofs.suspects.first_suspect.Goals.{in-Some, in_default}

pub loop-at-preserved : goal.loop-at-preserved
loop-at-preserved c = elim c.match-suspect_at.branch [
  | in-Some w ↦ first-less _ _ c.loop-at.at c.loop-at.first w.in-Some.part c.match-suspect_at.first c.loop-at.invariant (sym w.in-Some.ensures.suspect) (w.first-is ∙ w.min-first.ensures)
  | in_default w ↦ subst (IsLeastSuspect _ _ (c.loop-at.at + 1)) (sym w.first-is) (first-same _ _ c.loop-at.at c.loop-at.first c.loop-at.invariant (sym c.suspect_at.ensures.suspect ∙ w.in_default.is))
]

pub returns-then-first-parts : goal.returns-then-first-parts
returns-then-first-parts c =
    let some = some-least (least_under c.args.graph.now c.args.evidence.now c.args.costs.now) c.requires.some in
    rw c.if-first-parts.true at (ok-before _ _ _ c.len-nodes.ensures.valid c.requires.long c.requires.parts c.requires.total _ some.1 _ c.requires.values _ c.sweep.ensures c.requires.dear _ _ (omega arith) c.loop-at.invariant)

pub returns-else-first-parts : goal.returns-else-first-parts
returns-else-first-parts c =
    let some = some-least (least_under c.args.graph.now c.args.evidence.now c.args.costs.now) c.requires.some in (
      first-suspect _ _ _ c.len-nodes.ensures.valid c.requires.long c.requires.parts c.requires.total _ some.1 _ c.requires.values _ c.sweep.ensures _ _ (omega arith) c.loop-at.invariant c.if-first-parts.false,
      ok-before _ _ _ c.len-nodes.ensures.valid c.requires.long c.requires.parts c.requires.total _ some.1 _ c.requires.values _ c.sweep.ensures c.requires.dear _ _ (omega arith) c.loop-at.invariant,
    )
