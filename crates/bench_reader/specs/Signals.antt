-- The signals that the statements of a netlist drive and use. A statement is paired with the number of its line.
use Rattle.std.specs.Prelude.{ℕ, Bool, false, not, List, [], ◌∷◌, map, if◌then◌else◌}
use Rattle.std.specs.List.{list_all, filter, flat_map}
use Rattle.text_rules.specs.Names.{Name, is_among}
use Rattle.bench_reader.specs.Statements.{Statement, Input, Output, Gate}

abbrev pub driven_by_gate : Statement → List Name
driven_by_gate (Gate output kind inputs) = output ∷ []
driven_by_gate statement = []

abbrev pub driven : Statement → List Name
driven (Gate output kind inputs) = output ∷ []
driven (Input signal) = signal ∷ []
driven (Output signal) = []

abbrev pub used : Statement → List Name
used (Input signal) = []
used (Output signal) = signal ∷ []
used (Gate output kind inputs) = inputs

-- whether a gate drives a signal that is driven above, or an `INPUT` names a signal that a gate above drives
abbrev pub is_driven_twice : List Statement → Statement → Bool
is_driven_twice above (Gate output kind inputs) = is_among (flat_map driven above) output
is_driven_twice above (Input signal) = is_among (flat_map driven_by_gate above) signal
is_driven_twice above (Output signal) = false

-- the lines that drive a signal again, if the statements `above` come before them
abbrev pub driven_twice : List Statement → List (ℕ × Statement) → List ℕ
driven_twice above [] = []
driven_twice above ((line, statement) ∷ below) =
    let rest = driven_twice (statement ∷ above) below in if is_driven_twice above statement then line ∷ rest else rest

-- the lines that use a signal which is not in `signals`
abbrev pub undriven : List Name → List (ℕ × Statement) → List ℕ
undriven signals statements =
    map (λ (s : ℕ × Statement). s.0) (filter (λ (s : ℕ × Statement). not (list_all (is_among signals) (used s.1))) statements)
