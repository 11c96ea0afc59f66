-- Health states in their order, and those of least cost. A state is one bit for each part, 1 if the part is ok.
use Rattle.std.specs.Prelude.{ℕ, ◌+◌, Bool, true, false, List, [], ◌∷◌, map, replicate, Option, Some, None, min, nat_le}
use Rattle.std.specs.List.{filter}
use Rattle.state_rules.specs.Bits.{lists_of_bits}

-- the sum of the costs of the faulty parts
abbrev pub cost : List ℕ → List Bool → ℕ
cost [] state = 0
cost (c ∷ costs) [] = 0
cost (c ∷ costs) (true ∷ state) = cost costs state
cost (c ∷ costs) (false ∷ state) = c + cost costs state

-- cost 1 for each part: a state costs its number of faulty parts
abbrev pub plain_costs : ℕ → List ℕ
plain_costs parts = replicate parts 1

-- whether the first part at which two states differ is faulty in the left one
abbrev pub is_before : List Bool → List Bool → Bool
is_before [] ks = false
is_before (h ∷ hs) [] = false
is_before (false ∷ hs) (true ∷ ks) = true
is_before (true ∷ hs) (false ∷ ks) = false
is_before (false ∷ hs) (false ∷ ks) = is_before hs ks
is_before (true ∷ hs) (true ∷ ks) = is_before hs ks

-- every state of `parts` parts, in that order
abbrev pub states : ℕ → List (List Bool)
states parts = lists_of_bits parts

-- a test of a state
abbrev pub Test : Type 0
Test = List Bool → Bool

-- the states that pass, in their order
abbrev pub passing : ℕ → Test → List (List Bool)
passing parts test = filter test (states parts)

abbrev pub least_with : ℕ → Option ℕ → Option ℕ
least_with n None = Some n
least_with n (Some m) = Some (min n m)

-- the least number of a list, if it has one
abbrev pub least_of : List ℕ → Option ℕ
least_of [] = None
least_of (n ∷ ns) = least_with n (least_of ns)

-- the least cost of the states, if there is one
abbrev pub least : List ℕ → List (List Bool) → Option ℕ
least costs hs = least_of (map (cost costs) hs)

abbrev pub is_at_most : ℕ → Option ℕ → Bool
is_at_most n None = false
is_at_most n (Some m) = nat_le n m

-- the states of least cost
abbrev pub diagnoses : List ℕ → List (List Bool) → List (List Bool)
diagnoses costs hs = let fewest = least costs hs in filter (λ h. is_at_most (cost costs h) fewest) hs

-- the states after a point, which need not be one of them; all states if there is no point
abbrev pub rest : List (List Bool) → Option (List Bool) → List (List Bool)
rest hs None = hs
rest hs (Some point) = filter (is_before point) hs
