use Rattle.std.proofs.Common.{◌≡◌, ℕ, ◌<◌, get_or}
use Rattle.std.specs.Prelude.{if◌then◌else◌, ◌==◌}
use Rattle.level_lister.proofs.states.read_state.Given as goal

-- what was written so far
abbrev pub invariant-loop-part : goal.invariant-loop-part
invariant-loop-part l = (k : ℕ) → k < l.part → get_or l.state k 0 ≡ (if get_or l.evidence k 0 == 2 then 1 else 0)
