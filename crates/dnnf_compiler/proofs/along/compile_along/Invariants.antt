use Rattle.elimination_forests.specs.Forests.{Forest, width}
use Rattle.dnnf_compiler.specs.Along.{IsWay}
use Rattle.dnnf_compiler.proofs.WayUp.{spots_at, start, IsClimbing}
use Rattle.dnnf_compiler.proofs.along.compile_along.Given as goal

abbrev pub invariant-loop-place : goal.invariant-loop-place
invariant-loop-place l = (forest : Forest) → IsWay l.cnf l.steps l.forks forest → IsClimbing l.cnf (width forest) l.maker l.stack.items (spots_at (start l.cnf forest) l.place)
