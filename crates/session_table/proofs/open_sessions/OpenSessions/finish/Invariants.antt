use Rattle.session_table.specs.inner.Ordered.{HaveBlocks}
use Rattle.session_table.specs.declared.block.Layout.{Layout}
use Rattle.session_table.proofs.open_sessions.OpenSessions.finish.Given as goal

abbrev pub invariant-loop-block : goal.invariant-loop-block
invariant-loop-block l = (layout : Layout) × HaveBlocks layout l.pool l.«open».items

abbrev pub decreases-loop-block : goal.decreases-loop-block
decreases-loop-block l = goal.left-loop-block l
