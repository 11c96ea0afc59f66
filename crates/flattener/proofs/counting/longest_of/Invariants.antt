use Rattle.std.proofs.Common.{◌≡◌, drop}
use Rattle.std.specs.Prelude.{max}
use Rattle.flattener.specs.inner.Counting.{longest_of}
use Rattle.flattener.proofs.counting.longest_of.Given as goal

-- the rest completes it
abbrev pub invariant-loop-name : goal.invariant-loop-name
invariant-loop-name l = max l.longest (longest_of (drop l.name-index l.names)) ≡ longest_of l.names
