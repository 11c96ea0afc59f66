use Rattle.std.proofs.Common.{◌≡◌, ℕ, ◌<◌, length, slice_index, slice_index_or}
use Rattle.text_rules.specs.Names.{Name}
use Rattle.device_model.proofs.building.places_of.Given as goal

abbrev pub invariant-loop-place : goal.invariant-loop-place
invariant-loop-place l =
    (length l.places.items ≡ length l.wires)
    × ((k : ℕ) (w : Name × ℕ) → k < l.place → slice_index l.places.items (slice_index_or l.wires k w).1 ≡ k)
