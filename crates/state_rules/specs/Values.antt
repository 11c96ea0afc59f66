-- Values of items that depend on the items before them, such as nodes of a graph and blocks of a design.
use Rattle.std.specs.Prelude.{List, [], ◌∷◌, ◌++◌}

-- `earlier`, then a value for each item, from all values before it
abbrev pub values_after : {N A : Type 0} → (N → List A → A) → List A → List N → List A
values_after value earlier [] = earlier
values_after value earlier (item ∷ items) = values_after value (earlier ++ value item earlier ∷ []) items

abbrev pub values : {N A : Type 0} → (N → List A → A) → List N → List A
values value items = values_after value [] items
