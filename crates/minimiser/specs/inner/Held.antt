-- The cost of the parts that are fixed to faulty.
use Rattle.std.specs.Prelude.{ℕ, ◌+◌, Bool, true, false, List, [], ◌∷◌, Option, Some, None}
use Rattle.conditioner.specs.Evidence.{known_of}

abbrev pub held_one : ℕ → Option Bool → ℕ
held_one cost None = 0
held_one cost (Some true) = 0
held_one cost (Some false) = cost

-- the cost of these parts together
abbrev pub held_cost : List ℕ → List ℕ → ℕ
held_cost [] evidence = 0
held_cost (c ∷ costs) [] = 0
held_cost (c ∷ costs) (w ∷ evidence) = held_one c (known_of w) + held_cost costs evidence
