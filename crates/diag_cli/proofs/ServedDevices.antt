-- A service over a device's graph answers as the device's system does.
use Rattle.device_files.proofs.ForestChoices.{has_sum}
use Rattle.std.proofs.Common.{◌≡◌, ◌≤◌, ℕ, [], ◌∷◌, ap, ◌∙◌, arith}
use Rattle.std.specs.Prelude.{Result, Ok, Err, IfOk}
use Rattle.text_rules.specs.Expected.{Fulfils}
use Rattle.state_rules.specs.declared.extras.Extras.{Extras}
use Rattle.state_rules.specs.Systems.{with_extras}
use Rattle.state_rules.specs.Graphs.{Graph}
use Rattle.device_model.specs.Devices.{Device, IsDevice, part_names, part_costs}
use Rattle.device_model.specs.Diagnosis.{device_system}
use Rattle.clause_encoder.specs.Clauses.{ClauseList}
use Rattle.clause_encoder.specs.Encoding.{most_variables, encoded, Describes}
use Rattle.clause_encoder.proofs.Sizes.{encoded-few_vars}
use Rattle.branch_states.specs.declared.measuring.TheConstants.{BUDGET_LIMIT}
use Rattle.dnnf_compiler.proofs.CompiledMeaning.{graph_of_device}
use Rattle.session_rules.specs.Spelling.{IsGraphOf}
use Rattle.session_rules.specs.GraphSystems.{compiled_system}
use Rattle.session_rules.proofs.GraphReplies.{graph_replies}
use Rattle.session_rules.proofs.KeptCases.{HasCases-empty}
use Rattle.session_core.specs.Services.{Shown}
use Rattle.graph_engine.specs.Served.{served_system}
use Rattle.device_files.specs.declared.refusal.Refusal.{Refusal}
use Rattle.device_files.specs.Refusals.{refusal_output}
use Rattle.device_files.specs.Choices.{IsListOf}
use Rattle.device_files.specs.Weighing.{within}
use Rattle.diag_cli.specs.declared.words.ServeOptions.{ServeOptions}
use Rattle.diag_cli.specs.Behaviours.{ready_line, answers_of, served_device}
use Rattle.diag_cli.specs.inner.Compiling.{IsGraphBy, FulfilsGraph}
use Rattle.diag_cli.specs.inner.Serving.{IsServable, answers_by, Answers}

-- ---- a service can take the graph of a device

module _ (device : Device) (cnf : ClauseList) (is : encoded device ≡ Ok cnf) where
  pub servable : (graph : Graph) (sum : ℕ) → IsDevice device → Describes cnf device → sum ≤ BUDGET_LIMIT → IsGraphBy (record { list = cnf; sum = sum }) graph → IsServable device graph
  servable graph sum valid describes small by = record {
    valid = by.decomposable;
    meaning = graph_of_device device cnf graph is describes by.vars by.truth;
    few_vars = omega (arith, listed, by.vars);
    few_nodes = omega (arith, listed, by.few_nodes, small);
  }
    where
      listed : cnf.vars ≤ most_variables
      listed = encoded-few_vars device cnf valid is

pub all_servable : (device : Device) (list : ClauseList) → IsListOf device list → (budget sum : ℕ) → budget ≤ BUDGET_LIMIT → (result : Result Graph Refusal)
    → IfOk result (λ (_ : Graph). sum ≤ budget) → IfOk result (IsGraphBy (record { list = list; sum = sum })) → IfOk result (IsServable device)
all_servable device list of budget sum small result few by = grind (arith, servable device list of.encoded, of)

-- the result of a call that compiles it, if its clauses have this sum
pub found_or_refused : (device : Device) (list : ClauseList) → IsListOf device list → (budget sum : ℕ) → budget ≤ BUDGET_LIMIT → (result : Result Graph Refusal)
    → Fulfils (λ (_ : Graph). record { list = list; sum = sum }) refusal_output (within budget (Ok (record { list = list; sum = sum }))) result → IfOk result (λ (_ : Graph). sum ≤ budget)
    → IfOk result (IsGraphBy (record { list = list; sum = sum })) → FulfilsGraph device (within budget (Ok (record { list = list; sum = sum }))) result
found_or_refused device list of budget sum small (Ok graph) is few by =
    (servable device list of.encoded graph sum of.valid of.describes (omega (arith, few, small)) by, (record { list = list; sum = sum }, is, by))
found_or_refused device list of budget sum small (Err refusal) is few by = is

-- ---- the same answers

same_answers : (device : Device) (graph : Graph) → IsGraphOf device graph → (extras : Extras) (sessions : ℕ)
    → answers_of (with_extras extras (compiled_system device graph)) sessions ≡ answers_of (with_extras extras (device_system device)) sessions
same_answers device graph is extras sessions = λ k lines. ready_line (device_system device) ∷ graph_replies device graph is extras sessions [] (HasCases-empty (device_system device)) lines k

-- so a service over its graph answers as the device's system does
pub device_answers : (options : ServeOptions) (device : Device) (graph : Graph) → IsServable device graph → (shown : Shown)
    → shown ≡ record {
      system = served_system (record { parts = part_names device.parts; wires = device.wires; costs = part_costs device; graph = graph; extras = options.extras });
      limit = options.sessions;
      table = [];
    } → Answers (served_device options device) options.sessions shown
device_answers options device graph is shown e = record {
  none_open = ap (λ (s : Shown). s.table) e;
  same = ap answers_by e ∙ same_answers device graph is.meaning options.extras options.sessions;
}

pub ruleset listed_sizes = (has_sum, encoded-few_vars)
