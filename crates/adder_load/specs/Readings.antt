-- What was seen of the adder of a load.
use Rattle.std.specs.Prelude.{ℕ, ◌%◌, ◌==◌, Bool, false, List, [], ◌∷◌, length, replicate, set, fold, Option, Some, None, codes}
use Rattle.std.specs.List.{flat_map, range_with_len}
use Rattle.std.specs.Option.{option_map_or}
use Rattle.text_rules.specs.Names.{Name}
use Rattle.state_rules.specs.Cases.{Case}
use Rattle.device_model.specs.Devices.{Device, place_of}
use Rattle.adder_load.specs.Adders.{signal}

-- a wire and the bit that was seen of it
abbrev pub Reading : Type 0
Reading = Name × Bool

-- The bits that are added are 0, and so is each sum, except at every sixteenth place.
abbrev pub readings_at : ℕ → List Reading
readings_at place =
    (signal place (codes "a"), false) ∷ (signal place (codes "b"), false) ∷ (signal place (codes "s"), place % 16 == 0) ∷ []

-- all readings; the first carry and the last are 0 too
abbrev pub readings : ℕ → List Reading
readings places =
    (signal 0 (codes "c"), false) ∷ (signal places (codes "c"), false) ∷ flat_map readings_at (range_with_len 0 places)

-- what is seen with one more reading, if there is such a wire
abbrev pub with_reading : List Name → List (Option Bool) → Reading → List (Option Bool)
with_reading wires seen reading = option_map_or (λ wire. set seen wire (Some reading.1)) (place_of reading.0 wires) seen

-- the case of a device with these readings, in which nothing is held
abbrev pub adder_case : Device → ℕ → Case
adder_case device places = record {
  seen = fold (with_reading device.wires) (replicate (length device.wires) None) (readings places);
  held = replicate (length device.parts) None;
}
