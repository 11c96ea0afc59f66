-- Which sum of clauses a budget limits: by the order of their names, or along a forest.
use Rattle.std.specs.Prelude.{◌≡◌, ℕ, Bool, true, Option, None, Some, Result, Ok, if◌then◌else◌}
use Rattle.std.specs.Option.{option_map_or}
use Rattle.std.specs.Result.{result_map_both}
use Rattle.device_model.specs.Devices.{Device, IsDevice}
use Rattle.clause_encoder.specs.declared.encoding.EncodeError.{EncodeError}
use Rattle.clause_encoder.specs.Clauses.{ClauseList}
use Rattle.clause_encoder.specs.Encoding.{encoded, Describes}
use Rattle.branch_states.specs.Branches.{sum_of}
use Rattle.elimination_forests.specs.declared.steps.Weight.TheVariants.{Lists}
use Rattle.elimination_forests.specs.Forests.{Forest, forest_sum}
use Rattle.tree_finder.specs.declared.narrowing.Narrowed.{Narrowed}
use Rattle.tree_finder.specs.Narrowing.{Narrows, IsFound}

-- clauses, and their sum
pub record Weighed : Type 0 where
  pub list : ClauseList
  pub sum : ℕ

-- clauses and their sum: along the forest that is chosen for them, if that is asked for and one is; otherwise by the order of their names
abbrev pub weighed_by : Bool → (ClauseList → Option Forest) → ClauseList → Weighed
weighed_by narrow choose cnf = record {
  list = cnf;
  sum = option_map_or (λ forest. forest_sum Lists forest cnf.clauses) (if narrow then choose cnf else None) (sum_of cnf.clauses);
}

-- the clauses of a device and their sum
abbrev pub clauses_by : Bool → (ClauseList → Option Forest) → Device → Result Weighed EncodeError
clauses_by narrow choose device = result_map_both (weighed_by narrow choose) (λ error. error) (encoded device)

-- `Holds` is true for some choice of forests, along which no sum is greater than by the order of the names.
pub record ByForest (Holds : (ClauseList → Option Forest) → Type 0) : Type 0 where
  pub choose : ClauseList → Option Forest
  pub narrows : Narrows choose
  pub holds : Holds choose

-- `Holds` is true for the clauses of devices, weighed by such a choice if that is asked for
abbrev pub ByClauses : Bool → ((Device → Result Weighed EncodeError) → Type 0) → Type 0
ByClauses narrow Holds = ByForest (λ choose. Holds (clauses_by narrow choose))

-- ---- what is found

-- such a forest, or none; none if none is asked for
abbrev pub IsChosen : Bool → ClauseList → Option Narrowed → Type 0
IsChosen narrow list None = Unit {0}
IsChosen narrow list (Some found) = (narrow ≡ true) × IsFound list found

-- the sum by the order of the names, or along the forest that was found
abbrev pub HasSum : ClauseList → Option Narrowed → ℕ → Type 0
HasSum list None sum = sum ≡ sum_of list.clauses
HasSum list (Some found) sum = (is : IsFound list found) × (sum ≡ forest_sum Lists is.forest list.clauses)

-- the clauses of a device
pub record IsListOf (device : Device) (list : ClauseList) : Type 0 where
  pub encoded : encoded device ≡ Ok list
  pub describes : Describes list device
  pub valid : IsDevice device
