use Rattle.std.proofs.Common.{length, ap, arith}
use Rattle.forest_states.proofs.BitRuns.{length-last}
use Rattle.forest_states.proofs.picks.Picks.push.Goals as goal

pub overflow_add-self : goal.overflow_add-self
overflow_add-self c = omega (arith, length-last c.self.inside.runs.items c.self.inside.last.others c.self.inside.last.count, ap length c.self.view_is, c.requires)

pub overflow_add-self-then-self-eq0 : goal.overflow_add-self-then-self-eq0
overflow_add-self-then-self-eq0 c = omega (arith, length-last c.self.inside.runs.items c.self.inside.last.others c.self.inside.last.count, ap length c.self.view_is, c.requires)
