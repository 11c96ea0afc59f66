-- The forks of a level, as the chain of an order has them.
use Rattle.std.specs.Prelude.{ℕ, ◌+◌, Bool, false, true, List, map, drop, Option, option_map, position, replicate}
use Rattle.clause_encoder.specs.Clauses.{Clause}
use Rattle.elimination_forests.specs.Branches.{order, same_list, living, branch}
use Rattle.elimination_forests.specs.declared.forks.Forks.{Forks}
use Rattle.elimination_forests.specs.Forests.{trees, chain}

-- where a list leads by a bit of the next variable: the place of what is left among the next level's living lists, or none if it is dead
abbrev pub leads_to : List Clause → ℕ → List Bool → Bool → Option ℕ
leads_to clauses i list bit = position (λ next. same_list next (branch clauses i list bit)) (living clauses (i + 1))

-- where each living list of a level leads by a bit: nowhere, or to one list of the next level (without a number if no tree is below)
abbrev pub level_ways : List Clause → ℕ → Bool → List (Option (List ℕ))
level_ways clauses i bit = map (λ list. option_map (replicate (trees (chain (drop (i + 1) (order clauses))))) (leads_to clauses i list bit)) (living clauses i)

abbrev pub level_forks : List Clause → ℕ → Forks
level_forks clauses i =
    record {
      zero = record { trees = trees (chain (drop (i + 1) (order clauses))); ways = level_ways clauses i false };
      one = record { trees = trees (chain (drop (i + 1) (order clauses))); ways = level_ways clauses i true };
    }
