-- The variables that replace those of copies.
use Rattle.std.proofs.Common.{ℕ, ◌+◌, ◌-◌, ◌<◌, ◌≤◌, List, length, get_or, arith}
use Rattle.std.specs.List.{All}
use Rattle.std.proofs.lemmas.Bool.{cases_lt}
use Rattle.std.proofs.lemmas.List.{length-map, get_or-map, get_or_append_left, get_or-append_right}
use Rattle.std.proofs.lemmas.List.FromFn.{get_or-range_with_len}
use Rattle.frame_unroller.specs.Unrolling.{shared_variables}

module _ (parts vars : ℕ) (places : List ℕ) (many : length places ≤ vars) where
  module _ (within : All (λ place. place < parts) places) (k d : ℕ) (lt : k < vars) where
    pub variable-within : (1 ≤ get_or (shared_variables parts places vars) k d) × (get_or (shared_variables parts places vars) k d ≤ parts + (vars - length places))
    variable-within = grind (arith, cases_lt k (length places), get_or_append_left, get_or-append_right, length-map, get_or-map, get_or-range_with_len, within k 0)
