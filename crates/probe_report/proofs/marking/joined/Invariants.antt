use Rattle.std.proofs.Common.{◌≡◌, ℕ, map, take}
use Rattle.std.specs.List.{list_any}
use Rattle.state_rules.specs.Bits.{has_bit}
use Rattle.probe_report.specs.inner.Outside.{mark_at}
use Rattle.probe_report.proofs.marking.joined.Given as goal

-- the words of the children so far are joined
abbrev pub invariant-loop-k : goal.invariant-loop-k
invariant-loop-k l = (b : ℕ) → has_bit l.any b ≡ list_any (λ x. x) (map (λ k. has_bit (mark_at l.marks k) b) (take l.k-index l.kids))
