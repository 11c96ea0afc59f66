-- What is kept of a case while it is asked about.
use Rattle.std.specs.Prelude.{◌≡◌, ℕ, ◌<◌, ◌≤◌, Bool, Option, Some, List, length, ℤ, All}
use Rattle.conditioner.specs.Models.{total_cost}
use Rattle.minimiser.specs.declared.pass.TheConstants.{TOTAL_LIMIT}
use Rattle.clause_answers.specs.Questions.{least_under}
use Rattle.clause_answers.specs.inner.Asking.{Asked}
use Rattle.clause_answers.specs.inner.Listed.{AreOk}

-- There is a mark and a literal for each part. Parts that are marked as ok are ok in all bits in the range. The least cost may be known.
pub record IsKept (asked : Asked) (oks tried : List Bool) (literals : List ℤ) (least : Option (Option ℕ)) : Type 0 where
  pub right : AreOk asked.question asked.low asked.high oks
  pub long_oks : length oks ≡ length asked.question.costs
  pub long_tried : length tried ≡ length asked.question.costs
  pub long_literals : length literals ≡ length asked.question.costs
  pub few : length asked.question.costs < 2147483648
  pub known_least : (known : Option ℕ) → least ≡ Some known → known ≡ least_under asked.question
