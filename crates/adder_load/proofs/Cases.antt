-- The case of an adder has a place for each wire and each part of its device.
use Rattle.std.proofs.Common.{◌≡◌, ℕ, Bool, List, [], ◌∷◌, length, refl, arith, Option, None}
use Rattle.std.specs.Prelude.{fold}
use Rattle.std.proofs.lemmas.List.{length-set, length-replicate}
use Rattle.text_rules.specs.Names.{Name}
use Rattle.device_model.specs.Devices.{Device}
use Rattle.adder_load.specs.Readings.{Reading, with_reading, adder_case}

all_long : (wires : List Name) (seen : List (Option Bool)) (more : List Reading) → length (fold (with_reading wires) seen more) ≡ length seen
all_long wires seen [] = refl
all_long wires seen (reading ∷ more) = grind (arith, length-set, all_long wires (with_reading wires seen reading) more)

pub case_seen : (device : Device) (places : ℕ) → length (adder_case device places).seen ≡ length device.wires
case_seen device places = rw all_long (length-replicate {A = Option Bool} (length device.wires) None)

pub case_held : (device : Device) (places : ℕ) → length (adder_case device places).held ≡ length device.parts
case_held device places = length-replicate {A = Option Bool} (length device.parts) None
