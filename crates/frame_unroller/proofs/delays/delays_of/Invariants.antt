use Rattle.std.proofs.Common.{◌≡◌, ℕ, ◌<◌, ◌==◌, length, take, get_or, false}
use Rattle.std.specs.List.{list_any}
use Rattle.frame_unroller.proofs.delays.delays_of.Given as goal

-- what the places so far say
abbrev pub invariant-loop-place : goal.invariant-loop-place
invariant-loop-place l = record {
  many : length l.delays.items ≡ length l.seq.device.parts;
  said : (place : ℕ) → place < length l.seq.device.parts → get_or l.delays.items place false ≡ list_any (λ d. d == place) (take l.place-index l.place-items);
}
