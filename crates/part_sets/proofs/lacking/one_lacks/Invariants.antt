use Rattle.std.proofs.Common.{◌≡◌, ℕ, ◌<◌, ◌≤◌, get_or}
use Rattle.state_rules.specs.Graphs.{mentions}
use Rattle.part_sets.proofs.lacking.one_lacks.Given as goal

-- the children before the place lack no part
abbrev pub invariant-loop-child : goal.invariant-loop-child
invariant-loop-child l = (j v : ℕ) → j < l.child-index → 1 ≤ v → v ≤ l.parts → mentions l.graph.nodes v (get_or l.child-items j 0) ≡ mentions l.graph.nodes v l.at
