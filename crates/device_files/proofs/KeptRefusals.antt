-- What is refused stays refused, and is printed.
use Rattle.std.proofs.Common.{◌≡◌, ℕ, List, Option, None, Some, Result, Ok, sym, ap, subst, inl, inr}
use Rattle.text_rules.specs.Expected.{IsExpectedFault}
use Rattle.device_model.specs.Devices.{Device}
use Rattle.clause_encoder.specs.declared.encoding.EncodeError.{EncodeError}
use Rattle.device_files.specs.declared.status.Status.{Status}
use Rattle.device_files.specs.Output.{Output, FulfilsOutput, FulfilsOutputUnlessMemory, result_and_then, output_or_refusal}
use Rattle.device_files.specs.Choices.{Weighed}
use Rattle.device_files.specs.Weighing.{within, output_within}
use Rattle.device_files.specs.Refusals.{or_memory}

-- a refusal stays if more is to follow
pub refused_then : {A B : Type 0} (next : A → Result B Output) (found : Result A Output) (fault : Option Output) → IsExpectedFault fault found → IsExpectedFault fault (result_and_then next found)
refused_then next found None is = tt
refused_then next found (Some output) is = ap (result_and_then next) is

-- what is found is printed
pub found_told : {A : Type 0} (told : A → Output) (found : Result A Output) (value : A) (status : Status) (a b : Option (List ℕ)) → found ≡ Ok value
    → FulfilsOutput (told value) status a b → FulfilsOutputUnlessMemory (output_or_refusal told found) status a b
found_told told found value status a b is said = inr (subst (λ (o : Output). FulfilsOutput o status a b) (sym (ap (output_or_refusal told) is)) said)

-- and so is a refusal
pub refused_told : {A : Type 0} (told : A → Output) (found : Result A Output) (fault : Option Output) (status : Status) (a b : Option (List ℕ)) → IsExpectedFault fault found
    → FulfilsOutput (or_memory fault) status a b → FulfilsOutputUnlessMemory (output_or_refusal told found) status a b
refused_told told found None status a b is said = inl said
refused_told told found (Some output) status a b is said = inr (subst (λ (o : Output). FulfilsOutput o status a b) (sym (ap (output_or_refusal told) is)) said)

-- of a device that was found, by its clauses
module _ (budget : ℕ) (clauses : Device → Result Weighed EncodeError) (told : Device → Weighed → Output) (found : Result Device Output) (device : Device) where
  pub within_told : (weighed : Weighed) (status : Status) (a b : Option (List ℕ)) → found ≡ Ok device → within budget (clauses device) ≡ Ok weighed → FulfilsOutput (told device weighed) status a b
      → FulfilsOutputUnlessMemory (output_within budget clauses told found) status a b
  within_told weighed status a b is list said =
      subst (λ f. FulfilsOutputUnlessMemory (output_within budget clauses told f) status a b) (sym is) (found_told (told device) (within budget (clauses device)) weighed status a b list said)

  pub within_refused : (fault : Option Output) (status : Status) (a b : Option (List ℕ)) → found ≡ Ok device → IsExpectedFault fault (within budget (clauses device)) → FulfilsOutput (or_memory fault) status a b
      → FulfilsOutputUnlessMemory (output_within budget clauses told found) status a b
  within_refused fault status a b is refused said =
      subst (λ f. FulfilsOutputUnlessMemory (output_within budget clauses told f) status a b) (sym is) (refused_told (told device) (within budget (clauses device)) fault status a b refused said)
