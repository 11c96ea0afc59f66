-- A graph that was compiled from clauses means what they describe.
use Rattle.std.proofs.Common.{◌≡◌, ℕ, Bool, List, ◌+◌, ◌-◌, ◌≤◌, ◌++◌, length, ◌∙◌, arith, Ok}
use Rattle.std.specs.List.{list_any}
use Rattle.state_rules.specs.Bits.{lists_of_bits}
use Rattle.state_rules.specs.Assignments.{assignment}
use Rattle.state_rules.specs.Graphs.{Graph, holds}
use Rattle.state_rules.proofs.Members.{any_same}
use Rattle.state_rules.specs.GraphsOver.{IsGraphOver}
use Rattle.device_model.specs.Devices.{Device, fits}
use Rattle.clause_encoder.specs.Clauses.{ClauseList, all_hold}
use Rattle.clause_encoder.specs.Encoding.{encoded, DescribesBy, Describes}
use Rattle.clause_encoder.proofs.Sizes.{encoded-is}
use Rattle.dnnf_compiler.specs.Compiled.{SaysAll}

-- If clauses describe which bits fit, and a graph says all of them, it is the graph of what fits.
pub graph_over : (parts wires : ℕ) (fits_by : List Bool → List Bool → Bool) (cnf : ClauseList) (graph : Graph) → parts + wires ≤ cnf.vars → DescribesBy cnf parts wires fits_by
    → graph.vars ≡ cnf.vars → SaysAll cnf.clauses graph → IsGraphOver parts wires fits_by graph
graph_over parts wires fits_by cnf graph enough describes vars says = record {
  room = omega (arith, vars, enough);
  meaning = λ state bits states all.
      any_same (λ inner. holds graph (state ++ bits ++ inner)) (λ inner. all_hold (assignment (state ++ bits ++ inner)) cnf.clauses)
      (lists_of_bits (graph.vars - (length state + length bits))) (λ inner _. says (assignment (state ++ bits ++ inner)))
      ∙ (λ j. list_any (λ inner. all_hold (assignment (state ++ bits ++ inner)) cnf.clauses) (lists_of_bits (vars j - (states j + all j))))
      ∙ describes state bits states all;
}

-- If the encoder's clauses describe a device, their graph is the graph of the device.
pub graph_of_device : (device : Device) (cnf : ClauseList) (graph : Graph) → encoded device ≡ Ok cnf → Describes cnf device
    → graph.vars ≡ cnf.vars → SaysAll cnf.clauses graph → IsGraphOver (length device.parts) (length device.wires) (fits device) graph
graph_of_device device cnf graph is describes vars says =
    graph_over (length device.parts) (length device.wires) (fits device) cnf graph (omega (arith, (encoded-is device cnf is).vars)) describes vars says
