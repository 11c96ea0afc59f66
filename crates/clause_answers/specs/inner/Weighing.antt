-- Weights of literals that are assumed, and what they say of the cost.
use Rattle.std.specs.Prelude.{◌≡◌, ℕ, ◌+◌, ◌-◌, ◌*◌, ◌≤◌, Bool, true, if◌then◌else◌, List, [], ◌∷◌, length, take, ℤ}
use Rattle.state_rules.specs.Assignments.{Assignment, assignment}
use Rattle.clause_search.specs.declared.weighted.Weighted.{Weighted}
use Rattle.clause_search.specs.Searching.{Rules, holds, all_true, false_weight, keeps, priced}
use Rattle.clause_answers.specs.declared.weights.Weights.{Weights}
use Rattle.clause_answers.specs.inner.Known.{Knows}

-- 1 if a literal is false
abbrev pub unit_if_false : Assignment → ℤ → ℕ
unit_if_false a l = if holds a l then 0 else 1

-- by how much the definitions exceed their limits, times their weights
abbrev pub spread : Assignment → List (List Weighted) → List ℕ → List ℕ → ℕ
spread a [] limits weights = 0
spread a (m ∷ members) [] weights = 0
spread a (m ∷ members) (k ∷ limits) [] = 0
spread a (m ∷ members) (k ∷ limits) (w ∷ weights) = w * (false_weight a m - k) + spread a members limits weights

-- what the weights say of the cost
abbrev pub weighed : Rules → Weights → Assignment → ℕ
weighed rules weights a = weights.lower + (false_weight a (priced 1 weights.parts.items) + spread a rules.members rules.limits weights.bounds.items)

-- There is a weight for each part, and for some of the definitions. No assignment that keeps the rules, agrees with the evidence and makes the
-- literals true costs less than the weights say.
pub record Weighs (rules : Rules) (costs evidence : List ℕ) (literals : List ℤ) (weights : Weights) : Type 0 where
  pub parts : length weights.parts.items ≡ length costs
  pub short : length weights.bounds.items ≤ length rules.members
  pub below : (a : Assignment) → keeps rules a ≡ true → Knows a evidence (length evidence) → all_true a literals ≡ true
      → weighed rules weights a ≤ false_weight a (priced 1 costs)

-- The weights are the costs.
pub record IsFresh (costs : List ℕ) (weights : Weights) : Type 0 where
  pub parts : weights.parts.items ≡ costs
  pub bounds : weights.bounds.items ≡ []
  pub lower : weights.lower ≡ 0

-- The rules are the same, or there are more definitions.
pub record Grown (old new : Rules) : Type 0 where
  pub cnf : new.cnf ≡ old.cnf
  pub more : length old.members ≤ length new.members
  pub first : 2 ≤ length old.members → take 2 new.members ≡ take 2 old.members
  pub kept : (a : Assignment) → keeps new a ≡ true → keeps old a ≡ true
  pub spread_ : (a : Assignment) (weights : List ℕ) → length weights ≤ length old.members
      → spread a new.members new.limits weights ≡ spread a old.members old.limits weights

-- Bits for all variables that keep the rules, agree with the evidence and make literals true.
pub record IsReached (rules : Rules) (evidence : List ℕ) (literals : List ℤ) (bits : List Bool) : Type 0 where
  pub long : rules.cnf.vars ≤ length bits
  pub kept : keeps rules (assignment bits) ≡ true
  pub knows : Knows (assignment bits) evidence (length evidence)
  pub true_ : all_true (assignment bits) literals ≡ true
