-- The number of variables of an encoded device: each inner one comes with three clauses or more, and these are few.
use Rattle.std.proofs.Common.{◌≡◌, ℕ, ◌+◌, ◌-◌, ◌*◌, ◌≤◌, true, List, [], ◌∷◌, length, take, get_or, Ok, arith}
use Rattle.std.specs.Prelude.{if◌then◌else◌}
use Rattle.std.specs.List.{list_all}
use Rattle.std.proofs.lemmas.Bool.Decides.{nat_tests}
use Rattle.std.proofs.lemmas.List.{length-append, length-map, length-take-le}
use Rattle.device_model.specs.declared.gates.Rule.{Rule}
use Rattle.device_model.specs.declared.gates.Gate.{Gate}
use Rattle.device_model.specs.declared.gates.Reduction.{Reduction}
use Rattle.device_model.specs.declared.gates.Reduction.TheVariants.{AllOnes, AnyOne, OddOnes}
use Rattle.device_model.specs.declared.component.Component.{Component}
use Rattle.device_model.specs.TruthTable.{TruthTable}
use Rattle.device_model.specs.Devices.{Device, IsDevice, takes_ports, has_arity}
use Rattle.device_model.specs.Gates.{rule}
use Rattle.clause_encoder.specs.declared.limits.TheConstants.{CLAUSE_LIMIT}
use Rattle.clause_encoder.specs.Clauses.{ClauseList}
use Rattle.clause_encoder.specs.Encoding.{step_clauses, any_gate_clauses, is_wide, raw_clauses, inner_count, inner_vars, clauses_from, first_inner, raw_count, most_variables, encoded}
use Rattle.clause_encoder.proofs.ClauseCounts.{length-any_gate}

-- ---- inner variables and clauses

-- the number of clauses of a step
abbrev step-count : Reduction → ℕ
step-count AllOnes = 3
step-count AnyOne = 3
step-count OddOnes = 4

length-step : (reduction : Reduction) (z b x : ℕ) → length (step_clauses reduction z b x) ≡ step-count reduction
length-step reduction z b x = grind arith

step-three : (reduction : Reduction) (n : ℕ) → 3 * n ≤ step-count reduction * n
step-three reduction n = grind arith

wide-inner : (gate : Gate) (h z y inputs : ℕ) (xs : List ℕ) → 5 ≤ inputs → length xs ≡ inputs → 3 * (inputs - 2) ≤ length (any_gate_clauses gate h z xs y)
wide-inner gate h z y inputs xs wide long =
    let count = length-any_gate gate inputs (step-count gate.reduction) (length-step gate.reduction) wide h z y xs long in
    omega (arith, count, step-three gate.reduction (inputs - 1))

gate-inner : (gate : Gate) (h z : ℕ) (ports : List ℕ) → 3 * (if is_wide (length ports - 1) then length ports - 3 else 0)
    ≤ length (any_gate_clauses gate h z (take (length ports - 1) ports) (get_or ports (length ports - 1) 0))
gate-inner gate h z ports = grind (arith, nat_tests, length-take-le, wide-inner gate h z (get_or ports (length ports - 1) 0) (length ports - 1) (take (length ports - 1) ports))

part-inner : (tables : List TruthTable) (rule : Rule) (h z : ℕ) (ports : List ℕ) → takes_ports tables rule (length ports) ≡ true
    → 3 * inner_count rule (length ports) ≤ length (raw_clauses tables rule h z ports)
part-inner tables rule h z ports e = grind (arith, gate-inner)

parts-inner : (device : Device) (h z : ℕ) (parts : List Component) → list_all (has_arity device.tables) parts ≡ true
    → 3 * inner_vars parts ≤ length (clauses_from device h z parts)
parts-inner device h z [] arities = omega arith
parts-inner device h z (part ∷ parts) arities = grind (arith, part-inner, parts-inner device (h + 1) (z + inner_count (rule part.kind) (length part.ports)) parts, length-append, length-map)

-- ---- encoded devices

-- `cnf` are the device's clauses, which are few enough
pub record IsEncoded (device : Device) (cnf : ClauseList) : Type 0 where
  pub vars : cnf.vars ≡ length device.parts + length device.wires + inner_vars device.parts
  pub few : raw_count device ≤ CLAUSE_LIMIT

pub encoded-is : (device : Device) (cnf : ClauseList) → encoded device ≡ Ok cnf → IsEncoded device cnf
encoded-is device cnf is = grind arith

pub few_inner : (device : Device) (cnf : ClauseList) → IsDevice device → encoded device ≡ Ok cnf → 3 * inner_vars device.parts ≤ CLAUSE_LIMIT
few_inner device cnf valid is = omega (arith, parts-inner device 1 (first_inner device) device.parts valid.arities, (encoded-is device cnf is).few)

-- at most 4,096 parts, 16,384 wires and 87,381 inner variables
pub encoded-few_vars : (device : Device) (cnf : ClauseList) → IsDevice device → encoded device ≡ Ok cnf → cnf.vars ≤ most_variables
encoded-few_vars device cnf valid is = omega (arith, (encoded-is device cnf is).vars, few_inner device cnf valid is, valid.few_parts, valid.few_wires)
