use Rattle.std.proofs.Common.{◌≡◌, length, min, take}
use Rattle.std.specs.List.{sum_by}
use Rattle.elimination_forests.specs.declared.forks.Forks.{Forks}
use Rattle.dnnf_compiler.proofs.along.count_lists.Given as goal

abbrev pub invariant-loop-fork : goal.invariant-loop-fork
invariant-loop-fork l = l.count ≡ min (sum_by (λ (fork : Forks). length fork.zero.ways) (take l.fork-index l.forks)) 18446744073709551615
