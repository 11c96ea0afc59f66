-- Lists one after the other in one list of items.
use Rattle.std.specs.Prelude.{◌≡◌, ℕ, zero, suc, ◌-◌, ◌≤◌, List, [], ◌∷◌, take, drop, slice_index_or}

-- the lists in `items`: the first begins at `start`, and `ends` are the places where they end
abbrev pub pieces : {A : Type 0} → List A → ℕ → List ℕ → List (List A)
pieces items start [] = []
pieces items start (end ∷ ends) = take (end - start) (drop start items) ∷ pieces items end ends

-- no list ends before it begins, and the last one ends at `len`
abbrev pub EndAt : ℕ → ℕ → List ℕ → Type 0
EndAt len start [] = start ≡ len
EndAt len start (end ∷ ends) = (start ≤ end) × EndAt len end ends

-- where the list at place `at` begins
abbrev pub start_at : ℕ → List ℕ → ℕ → ℕ
start_at start ends zero = start
start_at start ends (suc at) = slice_index_or ends at 0
