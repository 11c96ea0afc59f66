use Rattle.std.proofs.Common.{◌≡◌, ◌*◌, length, take}
use Rattle.nnf_text.specs.inner.Sharing.{FirstOf}
use Rattle.nnf_text.proofs.sharing.first_shared.Given as goal

-- the first of the variables so far
abbrev pub invariant-loop-pass : goal.invariant-loop-pass
invariant-loop-pass l = record {
  found : FirstOf l.nodes (take (64 * l.pass) l.variables.items) l.first;
  long : length l.column.items ≡ length l.nodes;
}
