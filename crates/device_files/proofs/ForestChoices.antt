-- The choice of forests that a run uses.
use Rattle.std.proofs.Common.{◌≡◌, ◌<◌, ◌≤◌, ℕ, Bool, true, false, Option, None, Some, Result, Ok, Err, nat_lt, refl, sym, ap, subst, arith}
use Rattle.std.specs.Prelude.{IfOk, IfErr}
use Rattle.std.specs.Option.{option_map_or}
use Rattle.std.specs.Result.{result_map_both}
use Rattle.text_rules.specs.Expected.{IsExpectedFault, Fulfils}
use Rattle.device_model.specs.Devices.{Device}
use Rattle.clause_encoder.specs.declared.encoding.EncodeError.{EncodeError}
use Rattle.clause_encoder.specs.Clauses.{ClauseList}
use Rattle.branch_states.specs.Branches.{sum_of}
use Rattle.elimination_forests.specs.declared.steps.Weight.TheVariants.{Lists}
use Rattle.elimination_forests.specs.Forests.{Forest, forest_sum}
use Rattle.tree_finder.specs.declared.narrowing.Narrowed.{Narrowed}
use Rattle.tree_finder.specs.Narrowing.{IsFound}
use Rattle.tree_finder.proofs.ChosenForests.{choice_of, choice_narrows, choice_finds}
use Rattle.device_files.specs.declared.status.Status.TheVariants.{AboveBudget}
use Rattle.device_files.specs.declared.refusal.Refusal.{Refusal}
use Rattle.device_files.specs.declared.refusal.Refusal.TheVariants.{Sum}
use Rattle.device_files.specs.Output.{says}
use Rattle.device_files.specs.Refusals.{refusal_output}
use Rattle.device_files.specs.Choices.{Weighed, weighed_by, ByForest, ByClauses, IsChosen, HasSum, IsListOf}
use Rattle.device_files.specs.Weighing.{within, sum_line}

-- what holds by every choice of forests holds by some
pub by_any : {Holds : (ClauseList → Option Forest) → Type 0} → ((choose : ClauseList → Option Forest) → Holds choose) → ByForest Holds
by_any each = record { choose = λ list. None; narrows = λ list. tt; holds = each (λ list. None) }

pub by_same : {Holds Others : (ClauseList → Option Forest) → Type 0} → ByForest Holds → ((choose : ClauseList → Option Forest) → Holds choose → Others choose) → ByForest Others
by_same some gives = record { choose = some.choose; narrows = some.narrows; holds = gives some.choose some.holds }

-- ---- the sum by what was chosen

module _ (list : ClauseList) where
  -- there is one
  pub has_sum : (narrow : Bool) (chosen : Option Narrowed) → IsChosen narrow list chosen → (sum : ℕ) × HasSum list chosen sum
  has_sum narrow None is = (sum_of list.clauses, refl)
  has_sum narrow (Some found) is = (forest_sum Lists is.1.forest list.clauses, (is.1, refl))

  -- What holds of the clauses with that sum holds by some choice.
  pub chosen_gives : (narrow : Bool) (chosen : Option Narrowed) → IsChosen narrow list chosen → (FulfilsOutput : Weighed → Type 0)
      → ((sum : ℕ) → HasSum list chosen sum → FulfilsOutput (record { list = list; sum = sum })) → ByForest (λ choose. FulfilsOutput (weighed_by narrow choose list))
  chosen_gives true None is FulfilsOutput given = record { choose = λ other. None; narrows = λ other. tt; holds = given (sum_of list.clauses) refl }
  chosen_gives false None is FulfilsOutput given = by_any (λ choose. given (sum_of list.clauses) refl)
  chosen_gives false (Some found) is FulfilsOutput given = absurd (let no : ⊥ = cc in no)
  chosen_gives true (Some found) is FulfilsOutput given =
      let forest = is.1.forest in
      record {
        choose = choice_of list forest is.1.narrow;
        narrows = choice_narrows list forest is.1.narrow;
        holds = subst (λ chosen. FulfilsOutput (record { list = list; sum = option_map_or (λ f. forest_sum Lists f list.clauses) chosen (sum_of list.clauses) })) (sym (choice_finds list forest is.1.narrow)) (given (forest_sum Lists forest list.clauses) (is.1, refl));
      }

-- the same for the clauses of a device
pub list_gives : (narrow : Bool) (device : Device) (list : ClauseList) (chosen : Option Narrowed) → IsListOf device list → IsChosen narrow list chosen → (FulfilsOutput : Result Weighed EncodeError → Type 0)
    → ((sum : ℕ) → HasSum list chosen sum → FulfilsOutput (Ok (record { list = list; sum = sum }))) → ByClauses narrow (λ clauses. FulfilsOutput (clauses device))
list_gives narrow device list chosen of is FulfilsOutput given =
    by_same (chosen_gives list narrow chosen is (λ weighed. FulfilsOutput (Ok weighed)) given)
    (λ choose holds. subst FulfilsOutput (sym (ap (result_map_both (weighed_by narrow choose) (λ error. error)) of.encoded)) holds)

-- ---- clauses within a budget, or above it

pub kept_within : (budget : ℕ) (weighed : Weighed) → weighed.sum ≤ budget → within budget (Ok weighed) ≡ Ok weighed
kept_within budget weighed few = rw not_above
  where
    not_above : nat_lt budget weighed.sum ≡ false
    not_above = grind arith

pub refused_above : (budget : ℕ) (weighed : Weighed) → budget < weighed.sum → within budget (Ok weighed) ≡ Err (says (sum_line budget) AboveBudget)
refused_above budget weighed many = rw above
  where
    above : nat_lt budget weighed.sum ≡ true
    above = grind arith

-- along a forest that was found
module _ (list : ClauseList) (found : Narrowed) (is : IsFound list found) (budget sum : ℕ) (is_along : sum ≡ forest_sum Lists is.forest list.clauses) where
  pub found_or_above : (result : Result ℕ Refusal) → IfOk result (λ n. n ≡ found.sum) → IfOk result (λ n. n ≤ budget) → IfErr result (λ refusal. refusal ≡ Sum budget)
      → IfErr result (λ (_ : Refusal). budget < found.sum)
      → Fulfils (λ (_ : ℕ). record { list = list; sum = sum }) refusal_output (within budget (Ok (record { list = list; sum = sum }))) result
  found_or_above (Ok n) same few fault above = kept_within budget (record { list = list; sum = sum }) (omega (arith, same, few, is.sum, is_along))
  found_or_above (Err refusal) same few fault above =
      subst (λ r. IsExpectedFault (refusal_output r) (within budget (Ok (record { list = list; sum = sum })))) (sym fault)
      (refused_above budget (record { list = list; sum = sum }) (omega (arith, above, is.sum, is_along)))
