-- The status with which the output of a behaviour ends.
use Rattle.std.proofs.Common.{◌≡◌, ℕ, Bool, true, false, List, Option, Some, None, refl, arith}
use Rattle.std.specs.Prelude.{Result, IfErr, not, is_some}
use Rattle.state_rules.specs.declared.extras.Extras.{Extras}
use Rattle.device_model.specs.Devices.{Device}
use Rattle.bench_reader.specs.Netlists.{netlist}
use Rattle.clause_encoder.specs.Clauses.{ClauseList}
use Rattle.clause_encoder.specs.declared.encoding.EncodeError.{EncodeError}
use Rattle.branch_states.specs.declared.measuring.TheConstants.{BUDGET_LIMIT}
use Rattle.elimination_forests.specs.Forests.{Forest}
use Rattle.adder_load.specs.Adders.{adder_text}
use Rattle.device_files.specs.declared.inspecting.Inspection.TheVariants.{Plan, Check}
use Rattle.device_files.specs.declared.status.Status.{Status}
use Rattle.device_files.specs.declared.status.Status.TheVariants.{Done, Refused, Usage, AboveBudget, NoMemory}
use Rattle.device_files.specs.Output.{Output}
use Rattle.device_files.specs.Describing.{netlist_line, or_line, described}
use Rattle.device_files.specs.Choices.{Weighed, clauses_by}
use Rattle.device_files.specs.Weighing.{if_not_too_many, within, output_within}
use Rattle.device_files.specs.Inspecting.{planned}
use Rattle.diag_cli.specs.declared.words.TheConstants.{DEFAULT_BUDGET}
use Rattle.diag_cli.specs.declared.words.Command.{Command}
use Rattle.diag_cli.specs.declared.words.Command.TheVariants.{Serve, ServeFrames, Ask, Inspect, Compile}
use Rattle.diag_cli.specs.Words.{Form, Load, Over}
use Rattle.bench_reader.specs.declared.sequential.Sequential.{Sequential}
use Rattle.diag_cli.specs.Besides.{in_few_bits}
use Rattle.diag_cli.specs.Frames.{if_unrolls}
use Rattle.diag_cli.specs.Loads.{summary_by}
use Rattle.diag_cli.specs.Behaviours.{Behaviour, Prints, AnswersScript, graph_by, behaviour_by, behaviour_of}

-- No call failed and no script was cut. The status is `Usage` exactly if the words have no form.
abbrev pub is_plain : Bool → Status → Bool
is_plain form Done = form
is_plain form Refused = form
is_plain form AboveBudget = form
is_plain form NoMemory = form
is_plain form Usage = not form
is_plain form status = false

abbrev pub IsPlainBehaviour : Bool → Behaviour → Type 0
IsPlainBehaviour form (Prints output) = is_plain form output.status ≡ true
IsPlainBehaviour form (AnswersScript answers) = form ≡ true

abbrev Plain : {A : Type 0} → Result A Output → Type 0
Plain found = IfErr found (λ output. is_plain true output.status ≡ true)

-- ---- what is refused

within_plain : (budget : ℕ) (found : Result Weighed EncodeError) → Plain (within budget found)
within_plain budget found = grind arith

output_within_plain : (budget : ℕ) (clauses : Device → Result Weighed EncodeError) (told : Device → Weighed → Output) (found : Result Device Output) → Plain found
    → ((device : Device) (weighed : Weighed) → is_plain true (told device weighed).status ≡ true) → is_plain true (output_within budget clauses told found).status ≡ true
output_within_plain budget clauses told found is each = grind (arith, within_plain budget)

many_plain : {A : Type 0} (found : Result A EncodeError) → Plain (if_not_too_many found)
many_plain found = grind arith

unrolls_plain : (frames : ℕ) (found : Result Sequential Output) → Plain found → Plain (if_unrolls frames found)
unrolls_plain frames found is = grind arith

few_plain : (extras : Extras) (parts : ℕ) (found : Result Weighed Output) → Plain found → Plain (in_few_bits extras parts found)
few_plain extras parts found is = grind arith

described_plain : (path file : List ℕ) → Plain (described path file)
described_plain path file = grind arith

-- ---- behaviours

command_plain : (choose : ClauseList → Option Forest) (path : List ℕ) (command : Command) (file : List ℕ) → IsPlainBehaviour true (behaviour_by choose path command file)
command_plain choose path (Serve options) file = grind (arith, many_plain, few_plain, within_plain, described_plain)
command_plain choose path (ServeFrames frames options) file = grind (arith, unrolls_plain, few_plain, within_plain)
command_plain choose path (Ask health sessions) file = grind arith
command_plain choose path (Inspect (Plan narrow)) file = output_within_plain BUDGET_LIMIT (clauses_by narrow choose) planned (described path file) (described_plain path file) (λ device weighed. refl)
command_plain choose path (Inspect Check) file = grind arith
command_plain choose path (Compile budget narrow) file = output_within_plain budget (clauses_by narrow choose) graph_by (described path file) (described_plain path file) (λ device weighed. refl)

form_plain : (choose : ClauseList → Option Forest) (form : Form) (file : List ℕ) → IsPlainBehaviour true (behaviour_of choose (Some form) file)
form_plain choose (Load places) file =
    output_within_plain DEFAULT_BUDGET (clauses_by false (λ list. None)) (summary_by places) (or_line netlist_line (netlist (adder_text places))) (grind arith) (λ device weighed. refl)
form_plain choose (Over path command) file = grind (arith, command_plain)

pub plain_behaviour : (choose : ClauseList → Option Forest) (form : Option Form) (file : List ℕ) → IsPlainBehaviour (is_some form) (behaviour_of choose form file)
plain_behaviour choose form file = grind (arith, form_plain)
