-- What is compiled, by the sum that a budget limits.
use Rattle.std.proofs.Common.{◌≡◌, ◌≤◌, ℕ, Option, Some, None, Result, Ok, arith}
use Rattle.std.specs.Prelude.{IfOk, IfErr}
use Rattle.text_rules.specs.Expected.{IsExpectedFault, Fulfils}
use Rattle.clause_encoder.specs.Clauses.{ClauseList}
use Rattle.branch_states.specs.Branches.{sum_of}
use Rattle.elimination_forests.specs.declared.steps.Weight.TheVariants.{Lists}
use Rattle.elimination_forests.specs.Forests.{Forest, forest_sum}
use Rattle.tree_finder.specs.declared.narrowing.Narrowed.{Narrowed}
use Rattle.tree_finder.specs.Narrowing.{IsFound}
use Rattle.dnnf_compiler.specs.declared.compiling.Compiled.{Compiled}
use Rattle.dnnf_compiler.specs.Compiled.{IsCompiled}
use Rattle.dnnf_compiler.specs.Along.{IsCompiledAlong}
use Rattle.device_files.specs.declared.refusal.Refusal.{Refusal}
use Rattle.device_files.specs.Choices.{Weighed, HasSum}
use Rattle.device_files.specs.Refusals.{refusal_output}
use Rattle.device_files.specs.Weighing.{within}
use Rattle.device_files.proofs.ForestChoices.{kept_within}
use Rattle.diag_cli.specs.inner.Compiling.{IsGraphBy}

-- ---- a graph

pub graph_along : (list : ClauseList) (forest : Forest) (compiled : Compiled) → IsCompiledAlong forest list compiled → IsGraphBy (record { list = list; sum = forest_sum Lists forest list.clauses }) compiled.graph
graph_along list forest compiled is = grind arith

pub graph_by_names : (list : ClauseList) (compiled : Compiled) → IsCompiled list compiled → IsGraphBy (record { list = list; sum = sum_of list.clauses }) compiled.graph
graph_by_names list compiled is = grind arith

pub ruleset gives_graph = (graph_along, graph_by_names)

-- ---- by each sum of the clauses

-- along a forest that was found
pub found_each : (list : ClauseList) (forest : Option Narrowed) (found : Narrowed) → forest ≡ Some found → (Holds : ℕ → Type 0)
    → ((is : IsFound list found) → Holds (forest_sum Lists is.forest list.clauses)) → (sum : ℕ) → HasSum list forest sum → Holds sum
found_each list forest found e Holds given sum has = let chosen = rw e at has in rw chosen.1 (given chosen.0)

-- or by the order of names
pub named_each : (list : ClauseList) (forest : Option Narrowed) → forest ≡ None → (Holds : ℕ → Type 0) → Holds (sum_of list.clauses) → (sum : ℕ) → HasSum list forest sum → Holds sum
named_each list forest e Holds given sum has = let named = rw e at has in rw named given

-- there is a forest, if one was found
pub is_found : (list : ClauseList) (forest : Option Narrowed) (found : Narrowed) → forest ≡ Some found → (sum : ℕ) × HasSum list forest sum → IsFound list found
is_found list forest found e some = let chosen = rw e at some.1 in chosen.0

-- what is within the budget is found, and all else is refused
pub fulfils_within : {A : Type 0} (weighed : Weighed) (budget : ℕ) (result : Result A Refusal) → IfOk result (λ (_ : A). weighed.sum ≤ budget)
    → IfErr result (λ refusal. IsExpectedFault (refusal_output refusal) (within budget (Ok weighed))) → Fulfils (λ (_ : A). weighed) refusal_output (within budget (Ok weighed)) result
fulfils_within weighed budget result few fault = grind (arith, kept_within budget weighed)
