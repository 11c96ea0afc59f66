-- The number of passes over the graph in a call.
use Rattle.std.specs.Prelude.{ℕ, ◌+◌, ◌*◌, ◌/◌, ◌^◌, ◌<◌, ◌≤◌, nat_le, max, if◌then◌else◌, Bool, List, Option, Some, None}
use Rattle.diagnosis_lister.specs.Listing.{fault_count}

-- the number of groups of parts for which a word has room at each listed cost
abbrev pub group_count : ℕ → ℕ
group_count top = 32 / (top + 1)

-- the number of groups among which a pass finds the one with the first fault, or that none has one: as many as a word has room for, at
-- least one
abbrev pub groups_per_pass : ℕ → ℕ
groups_per_pass top = max 1 (group_count top)

-- if costs of 32 and more are listed, a search begins with a pass that computes the costs of all nodes
abbrev pub first_passes : ℕ → ℕ
first_passes top = if nat_le 32 top then 1 else 0

-- `search` passes find the first fault among the parts, or that there is none: the first passes, and those that divide the parts
abbrev pub AreEnough : ℕ → ℕ → ℕ → Type 0
AreEnough parts top search = (divisions : ℕ) × (parts < (groups_per_pass top + 1) ^ divisions) × (first_passes top + divisions ≤ search)

-- the passes that fix the parts as in a state: a search for each fault, and a last one that finds no other
abbrev pub fixing_passes : ℕ → List Bool → ℕ
fixing_passes search state = (fault_count state + 1) * search

-- the number of faulty parts of a point, if there is one
abbrev pub point_faults : Option (List Bool) → ℕ
point_faults None = 0
point_faults (Some point) = fault_count point

-- one pass to see if there is a state, one for each fault of the point, one for the next cost, and those that fix the parts
abbrev pub most_passes : ℕ → Option (List Bool) → List Bool → ℕ
most_passes search point state = 2 + point_faults point + fixing_passes search state
