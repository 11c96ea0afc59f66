-- What a search is asked for: bits of all variables that fit a question, and cost little.
use Rattle.std.specs.Prelude.{◌≡◌, ℕ, ◌+◌, ◌≤◌, Bool, true, false, List, length, take, ℤ, Option, Some, None}
use Rattle.state_rules.specs.Assignments.{assignment}
use Rattle.state_rules.specs.Ranking.{cost}
use Rattle.clause_encoder.specs.Clauses.{all_hold}
use Rattle.conditioner.specs.Models.{fits_evidence}
use Rattle.clause_search.specs.Searching.{all_true}
use Rattle.clause_answers.specs.Questions.{Question}

-- A question, the range of costs that `ask` is to look in, and the bits that were found last.
pub record Asked : Type 0 where
  pub question : Question
  pub low : ℕ
  pub high : ℕ
  pub bits : List Bool

-- bits of all variables that agree with the evidence, and make all clauses true
pub record Fits (q : Question) (bits : List Bool) : Type 0 where
  pub long : length bits ≡ q.cnf.vars
  pub agrees : fits_evidence q.evidence bits ≡ true
  pub holds : all_hold (assignment bits) q.cnf.clauses ≡ true

-- the cost of the state in bits of all variables
abbrev pub cost_of : Question → List Bool → ℕ
cost_of q bits = cost q.costs (take (length q.costs) bits)

-- Bits that fit, make literals true, and cost `n`: no others cost less.
pub record IsLeast (q : Question) (literals : List ℤ) (bits : List Bool) (n : ℕ) : Type 0 where
  pub fits : Fits q bits
  pub true_ : all_true (assignment bits) literals ≡ true
  pub costs : cost_of q bits ≡ n
  pub bound : (others : List Bool) → Fits q others → all_true (assignment others) literals ≡ true → n ≤ cost_of q others

-- the least cost of bits that fit and make literals true, and such bits; none if no bits do
abbrev pub IsMinimum : Question → List ℤ → List Bool → Option ℕ → Type 0
IsMinimum q literals bits None = (others : List Bool) → Fits q others → all_true (assignment others) literals ≡ false
IsMinimum q literals bits (Some n) = IsLeast q literals bits n

-- Bits that fit, cost from `low` to `high`, and make literals true.
pub record IsFound (asked : Asked) (literals : List ℤ) : Type 0 where
  pub fits : Fits asked.question asked.bits
  pub low : asked.low ≤ cost_of asked.question asked.bits
  pub high : cost_of asked.question asked.bits ≤ asked.high
  pub true_ : all_true (assignment asked.bits) literals ≡ true

-- no bits that fit and cost from `low` to `high` make literals true
abbrev pub NoneFound : Asked → List ℤ → Type 0
NoneFound asked literals = (bits : List Bool) → Fits asked.question bits → asked.low ≤ cost_of asked.question bits
    → cost_of asked.question bits ≤ asked.high → all_true (assignment bits) literals ≡ false

-- Bits that fit, make literals true, and cost `n`, from `from` to `top`: no others that cost `from` or more cost less.
pub record IsLeastFrom (q : Question) (literals : List ℤ) (from top : ℕ) (bits : List Bool) (n : ℕ) : Type 0 where
  pub fits : Fits q bits
  pub true_ : all_true (assignment bits) literals ≡ true
  pub costs : cost_of q bits ≡ n
  pub low : from ≤ n
  pub high : n ≤ top
  pub bound : (others : List Bool) → Fits q others → all_true (assignment others) literals ≡ true → from ≤ cost_of q others → n ≤ cost_of q others

-- the least cost from `from` to `top` of bits that fit and make literals true, and such bits; none if no bits do
abbrev pub LeastFrom : Question → List ℤ → ℕ → ℕ → List Bool → Option ℕ → Type 0
LeastFrom q literals from top bits None = NoneFound (record { question = q; low = from; high = top; bits = bits }) literals
LeastFrom q literals from top bits (Some n) = IsLeastFrom q literals from top bits n

-- Bits that fit, make literals true and cost `n`, the cost after which `high` comes; or nothing was found, and `high` is still the top.
pub record IsLowered (q : Question) (literals : List ℤ) (from top : ℕ) (bits : List Bool) (high n : ℕ) : Type 0 where
  pub fits : Fits q bits
  pub true_ : all_true (assignment bits) literals ≡ true
  pub costs : cost_of q bits ≡ n
  pub low : from ≤ n
  pub top_is : n ≤ top
  pub next : high + 1 ≡ n

abbrev pub Lowered : Question → List ℤ → ℕ → ℕ → List Bool → ℕ → Option ℕ → Type 0
Lowered q literals from top bits high None = high ≡ top
Lowered q literals from top bits high (Some n) = IsLowered q literals from top bits high n
