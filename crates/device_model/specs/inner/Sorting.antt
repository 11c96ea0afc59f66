-- What one step that builds a device promises to the next.
use Rattle.std.specs.Prelude.{◌≡◌, ◌≢◌, ℕ, ◌+◌, ◌<◌, ◌≤◌, List, [], ◌∷◌, length, map, slice_index, Option, Some, None, Result, Err, slice_index_or}
use Rattle.text_rules.specs.Names.{Name}
use Rattle.device_model.specs.declared.component.Component.{Component}
use Rattle.device_model.specs.declared.building.BuildError.{BuildError}
use Rattle.device_model.specs.Order.{sorted_distinct}
use Rattle.device_model.specs.Devices.{Device}
use Rattle.device_model.specs.Building.{repeated, unless_name}

-- each name with its position, from `position` on
abbrev pub numbered_from : ℕ → List Name → List (Name × ℕ)
numbered_from position [] = []
numbered_from position (name ∷ names) = (name, position) ∷ numbered_from (position + 1) names

-- a part with each port replaced by `places` at that port
abbrev pub with_places : List ℕ → Component → Component
with_places places part = record part { ports = map (slice_index places) part.ports }

-- no two neighbours among the first `places` names are equal
abbrev pub NeighboursDiffer : List Name → ℕ → Type 0
NeighboursDiffer names places = (k : ℕ) → k + 1 < places → slice_index_or names k [] ≢ slice_index_or names (k + 1) []

-- the first place whose name equals the one before it
abbrev pub IsFirstRepeat : List Name → Option ℕ → Type 0
IsFirstRepeat names None = NeighboursDiffer names (length names)
IsFirstRepeat names (Some place) =
    (1 ≤ place) × (place < length names) × NeighboursDiffer names place
    × ((k : ℕ) → k + 1 ≡ place → slice_index_or names k [] ≡ slice_index_or names place [])

-- `e` is the error of the least name that occurs twice
abbrev pub IsTwice : (Name → BuildError) → List Name → BuildError → Type 0
IsTwice error names e =
    (otherwise : Result Device BuildError) → unless_name error (sorted_distinct (λ n. n) (repeated names)) otherwise ≡ Err e
