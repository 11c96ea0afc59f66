-- What evidence becomes when readings are noted in it.
use Rattle.std.specs.Prelude.{◌≡◌, ℕ, List, length, fold}
use Rattle.state_rules.specs.Cases.{Case}
use Rattle.device_model.specs.Devices.{Device}
use Rattle.session_rules.specs.CaseEvidence.{case_of_evidence, IsEvidence}
use Rattle.adder_load.specs.Readings.{Reading, with_reading}

-- the case of a device that evidence means
abbrev pub case_in : Device → List ℕ → Case
case_in device evidence = case_of_evidence (length device.parts) (length device.wires) evidence

-- `new` is evidence of a case, and says what `old` says, and the readings
pub record Notes (device : Device) (old new : List ℕ) (readings : List Reading) : Type 0 where
  pub evidence : IsEvidence (length device.parts) (length device.wires) (length old) new
  pub seen : (case_in device new).seen ≡ fold (with_reading device.wires) (case_in device old).seen readings
  pub held : (case_in device new).held ≡ (case_in device old).held
