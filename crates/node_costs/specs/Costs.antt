-- The cost of an assignment, and the costs at which a condition can be met.
use Rattle.std.specs.Prelude.{◌≡◌, ℕ, zero, suc, ◌+◌, ◌<◌, ◌≤◌, Bool, true, List, length, Option, Some, None, if◌then◌else◌}
use Rattle.state_rules.specs.Assignments.{Assignment}
use Rattle.state_rules.specs.Cases.{agrees_at}
use Rattle.state_rules.specs.Ranking.{Test, cost}

-- what is known of each variable, the weight of each literal, and how many variables, from the first on, have weights
pub record Weights : Type 0 where
  pub known : ℕ → Option Bool
  pub weight : ℕ → Bool → ℕ
  pub parts : ℕ

-- the sum over `n` variables, from `a` on
abbrev pub total : (ℕ → ℕ) → ℕ → ℕ → ℕ
total f a zero = 0
total f a (suc n) = f a + total f (a + 1) n

-- the cost of an assignment among the variables `m`: the weights of its literals of these
abbrev pub cost_among : Weights → (ℕ → Bool) → Assignment → ℕ
cost_among g m a = total (λ v. if m v then g.weight v (a v) else 0) 1 g.parts

-- an assignment agrees with what is known
abbrev pub Agrees : Weights → Assignment → Type 0
Agrees g a = (v : ℕ) → agrees_at (g.known v) (a v) ≡ true

-- a condition depends only on the variables `m`
abbrev pub Local : (ℕ → Bool) → (Assignment → Type 0) → Type 0
Local m P = (a b : Assignment) → ((v : ℕ) → m v ≡ true → a v ≡ b v) → P b → P a

-- and so does a test
abbrev pub Depends : (ℕ → Bool) → (Assignment → Bool) → Type 0
Depends m t = (a b : Assignment) → ((v : ℕ) → m v ≡ true → a v ≡ b v) → t a ≡ t b

-- A cost of a condition: some assignment that agrees with what is known meets it, and costs `n` among the variables `m`.
pub record CostOf (g : Weights) (m : ℕ → Bool) (P : Assignment → Type 0) (n : ℕ) : Type 0 where
  pub by : Assignment
  pub agrees : Agrees g by
  pub meets : P by
  pub cost_is : cost_among g m by ≡ n

-- a cost of a test
abbrev pub TestCost : Weights → (ℕ → Bool) → (Assignment → Bool) → ℕ → Type 0
TestCost g m t n = CostOf g m (λ a. t a ≡ true) n

-- A cost of a state that passes a test.
pub record StateCost (costs : List ℕ) (parts : ℕ) (test : Test) (n : ℕ) : Type 0 where
  pub state : List Bool
  pub long : length state ≡ parts
  pub passes : test state ≡ true
  pub cost_is : cost costs state ≡ n

-- ---- sets of costs

-- a cost of `C` and a cost of `D` add up to `n`
pub record SumOf (C D : ℕ → Type 0) (n : ℕ) : Type 0 where
  pub left : ℕ
  pub right : ℕ
  pub on_left : C left
  pub on_right : D right
  pub sum_is : left + right ≡ n

-- the least cost, or `None` if there is no cost
abbrev pub IsLeast : (ℕ → Type 0) → Option ℕ → Type 0
IsLeast C None = (n : ℕ) → C n → ⊥
IsLeast C (Some c) = C c × ((n : ℕ) → C n → c ≤ n)

-- a row of bits has exactly the costs below a limit
pub record IsRow (has : ℕ → Bool) (limit : ℕ) (C : ℕ → Type 0) : Type 0 where
  pub sound : (n : ℕ) → n < limit → has n ≡ true → C n
  pub whole : (n : ℕ) → n < limit → C n → has n ≡ true
