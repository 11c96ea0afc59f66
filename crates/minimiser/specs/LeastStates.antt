-- States of least cost, and the open parts that are faulty in them.
use Rattle.std.specs.Prelude.{◌≡◌, ℕ, ◌<◌, ◌≤◌, Bool, true, false, List, length, Some, slice_index}
use Rattle.state_rules.specs.Bits.{bit_in}
use Rattle.state_rules.specs.Ranking.{cost}
use Rattle.state_rules.specs.Graphs.{Graph}
use Rattle.conditioner.specs.Models.{has_model, fits_evidence, least_under}

-- a state of the parts that the graph allows under the evidence, and that costs at most `most`
pub record ModelWithin (graph : Graph) (evidence costs : List ℕ) (most : ℕ) (h : List Bool) : Type 0 where
  pub long : length h ≡ length costs
  pub model : has_model graph (fits_evidence evidence) (length costs) h ≡ true
  pub cheap : cost costs h ≤ most

-- a state of least cost
pub record LeastState (graph : Graph) (evidence costs : List ℕ) (h : List Bool) : Type 0 where
  pub most : ℕ
  pub least_is : least_under graph evidence costs ≡ Some most
  pub passes : ModelWithin graph evidence costs most h

-- an open part that is faulty in some state of least cost
pub record Suspect (graph : Graph) (evidence costs : List ℕ) (part : ℕ) : Type 0 where
  pub within : part < length costs
  pub open_ : slice_index evidence part ≡ 0
  pub state : List Bool
  pub is_least : LeastState graph evidence costs state
  pub faulty : bit_in state part ≡ false

-- the open parts before `n` are ok in all states of least cost
abbrev pub OkBelow : Graph → List ℕ → List ℕ → ℕ → Type 0
OkBelow graph evidence costs n =
    (part : ℕ) → part < n → slice_index evidence part ≡ 0 → (h : List Bool) → LeastState graph evidence costs h → bit_in h part ≡ true
