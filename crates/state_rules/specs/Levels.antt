-- Health states by rising cost.
use Rattle.std.specs.Prelude.{ℕ, ◌+◌, Bool, ◌&&◌, ◌||◌, List, Option, Some, None, nat_lt, ◌==◌}
use Rattle.std.specs.List.{filter, flat_map, range_with_len}
use Rattle.state_rules.specs.Ranking.{cost, is_before}

-- the states that cost `c`
abbrev pub of_cost : List ℕ → List (List Bool) → ℕ → List (List Bool)
of_cost costs hs c = filter (λ h. cost costs h == c) hs

-- the states of cost 0, then those of cost 1, and so on up to `top`
abbrev pub levels : List ℕ → ℕ → List (List Bool) → List (List Bool)
levels costs top hs = flat_map (of_cost costs hs) (range_with_len 0 (top + 1))

-- whether `k` costs more than `h`, or the same and comes after it
abbrev pub is_level_before : List ℕ → List Bool → List Bool → Bool
is_level_before costs h k =
    nat_lt (cost costs h) (cost costs k) || ((cost costs h == cost costs k) && is_before h k)

-- the states after a point, which need not be one of them; all states if there is no point
abbrev pub levels_rest : List ℕ → List (List Bool) → Option (List Bool) → List (List Bool)
levels_rest costs hs None = hs
levels_rest costs hs (Some point) = filter (is_level_before costs point) hs
