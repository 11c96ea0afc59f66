-- Worked rows: values of the definitions.
use Rattle.std.proofs.Common.{◌≡◌, ℕ, Bool, true, false, List, [], ◌∷◌, Some, None, Err, refl, map, ◌++◌}
use Rattle.std.specs.Prelude.{codes}
use Rattle.text_rules.specs.Names.{names_rise}
use Rattle.state_rules.specs.Cases.{Case}
use Rattle.state_rules.specs.Systems.{least_cost, all_diagnoses}
use Rattle.device_model.specs.declared.component.Component.{Component}
use Rattle.device_model.specs.declared.gates.Kind.{Kind}
use Rattle.device_model.specs.declared.gates.Kind.TheVariants.{Nand, Xor, Xnor, Buff, Table}
use Rattle.device_model.specs.declared.building.BuildError.TheVariants.{Arity}
use Rattle.device_model.specs.Devices.{Device, allows}
use Rattle.device_model.specs.Gates.{rule, takes_inputs}
use Rattle.device_model.specs.Diagnosis.{device_system}
use Rattle.device_model.specs.Building.{built}

abbrev part : List ℕ → Kind → List ℕ → Component
part name kind ports = record { name = name; kind = kind; ports = ports }

-- ---- the benchmark C17, its wires in byte order

abbrev c17 : Device
c17 = record {
  parts = part (codes "10") Nand (0 ∷ 8 ∷ 1 ∷ [])
      ∷ part (codes "11") Nand (8 ∷ 9 ∷ 2 ∷ [])
      ∷ part (codes "16") Nand (5 ∷ 2 ∷ 3 ∷ [])
      ∷ part (codes "19") Nand (2 ∷ 10 ∷ 4 ∷ [])
      ∷ part (codes "22") Nand (1 ∷ 3 ∷ 6 ∷ [])
      ∷ part (codes "23") Nand (3 ∷ 4 ∷ 7 ∷ []) ∷ [];
  wires = map codes ("1" ∷ "10" ∷ "11" ∷ "16" ∷ "19" ∷ "2" ∷ "22" ∷ "23" ∷ "3" ∷ "6" ∷ "7" ∷ []);
  tables = [];
}

c17_names : names_rise c17.wires ≡ true
c17_names = refl

-- the inputs 1, 2, 3, 6 and 7 are seen as 0, the outputs 22 and 23 as given
abbrev zeros_with : Bool → Bool → Case
zeros_with out22 out23 = record {
  seen = Some false ∷ None ∷ None ∷ None ∷ None ∷ Some false ∷ Some out22 ∷ Some out23 ∷ Some false ∷ Some false ∷ Some false ∷ [];
  held = None ∷ None ∷ None ∷ None ∷ None ∷ None ∷ [];
}

c17_one_output_least : least_cost (device_system c17) (zeros_with true false) ≡ Some 1
c17_one_output_least = refl

-- 10 or 22 is faulty
c17_one_output : all_diagnoses (device_system c17) (zeros_with true false)
    ≡ (false ∷ true ∷ true ∷ true ∷ true ∷ true ∷ []) ∷ (true ∷ true ∷ true ∷ true ∷ false ∷ true ∷ []) ∷ []
c17_one_output = refl

-- 16 is faulty
c17_both_outputs : all_diagnoses (device_system c17) (zeros_with true true) ≡ (true ∷ true ∷ false ∷ true ∷ true ∷ true ∷ []) ∷ []
c17_both_outputs = refl

-- ---- gates

-- the outputs of a gate of two inputs for 00, 10, 01 and 11
abbrev of_two : Kind → List Bool
of_two kind =
    map (λ inputs. allows [] (rule kind) true (inputs ++ true ∷ []))
    ((false ∷ false ∷ []) ∷ (true ∷ false ∷ []) ∷ (false ∷ true ∷ []) ∷ (true ∷ true ∷ []) ∷ [])

of_xors : map of_two (Xor ∷ Xnor ∷ []) ≡ (false ∷ true ∷ true ∷ false ∷ []) ∷ (true ∷ false ∷ false ∷ true ∷ []) ∷ []
of_xors = refl

a_buffer_takes_one : map (takes_inputs (rule Buff)) (0 ∷ 1 ∷ 2 ∷ []) ≡ false ∷ true ∷ false ∷ []
a_buffer_takes_one = refl

-- ---- a part of a type that is missing

arity_of_no_table : built (part (codes "b") (Table 0) (0 ∷ 0 ∷ []) ∷ []) (codes "a" ∷ []) [] ≡ Err (Arity 0)
arity_of_no_table = refl
