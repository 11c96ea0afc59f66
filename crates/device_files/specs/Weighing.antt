-- The clauses of a device, whose sum a budget limits.
use Rattle.std.specs.Prelude.{ℕ, List, [], ◌∷◌, Result, Ok, Err, codes, nat_lt, if◌then◌else◌}
use Rattle.std.specs.Fmt.{decimal}
use Rattle.text_rules.specs.Tokens.{spaced}
use Rattle.device_model.specs.Devices.{Device}
use Rattle.clause_encoder.specs.declared.limits.TheConstants.{CLAUSE_LIMIT}
use Rattle.clause_encoder.specs.declared.encoding.EncodeError.{EncodeError}
use Rattle.clause_encoder.specs.declared.encoding.EncodeError.TheVariants.{TooManyClauses, Memory}
use Rattle.device_files.specs.Choices.{Weighed}
use Rattle.device_files.specs.declared.status.Status.TheVariants.{Refused, AboveBudget}
use Rattle.device_files.specs.Output.{Output, says, no_memory, result_and_then, output_or_refusal}
use Rattle.diag_edge.specs.ErrorLines.{above_line}

-- the line of a sum above the budget
abbrev pub sum_line : ℕ → List ℕ
sum_line budget = spaced (codes "error: sum above" ∷ decimal budget ∷ [])

-- what is found of the clauses of a device, or the output that says that they are too many
abbrev pub if_not_too_many : {A : Type 0} → Result A EncodeError → Result A Output
if_not_too_many (Ok found) = Ok found
if_not_too_many (Err (TooManyClauses count)) = Err (says (above_line (codes "clauses") count CLAUSE_LIMIT) Refused)
if_not_too_many (Err Memory) = Err no_memory

-- the clauses of a device, if their sum is within a budget
abbrev pub within : ℕ → Result Weighed EncodeError → Result Weighed Output
within budget found =
    result_and_then (λ weighed. if nat_lt budget weighed.sum then Err (says (sum_line budget) AboveBudget) else Ok weighed) (if_not_too_many found)

-- what is printed of a device and its clauses, if their sum is within a budget
abbrev pub output_within : ℕ → (Device → Result Weighed EncodeError) → (Device → Weighed → Output) → Result Device Output → Output
output_within budget clauses told found = output_or_refusal (λ device. output_or_refusal (told device) (within budget (clauses device))) found
