use Rattle.std.proofs.Common.{◌≡◌}
use Rattle.nnf_ask.specs.Asking.{variable_names}
use Rattle.nnf_ask.proofs.names.variable_names.Given as goal

-- the names so far
abbrev pub invariant-loop-place : goal.invariant-loop-place
invariant-loop-place l = l.names.items ≡ variable_names l.first l.place
