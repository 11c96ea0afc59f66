-- Items in the order of their names.
use Rattle.std.specs.Prelude.{List, [], ◌∷◌, if◌then◌else◌}
use Rattle.text_rules.specs.Names.{Name, name_below, same_name}

-- `x` inserted by its name, unless an item has the name
abbrev pub placed : {A : Type 0} → (A → Name) → A → List A → List A
placed name x [] = x ∷ []
placed name x (y ∷ ys) =
    if same_name (name x) (name y) then y ∷ ys
    else if name_below (name x) (name y) then x ∷ y ∷ ys
    else y ∷ placed name x ys

-- the items by rising name, one for each name
abbrev pub sorted_distinct : {A : Type 0} → (A → Name) → List A → List A
sorted_distinct name [] = []
sorted_distinct name (x ∷ xs) = placed name x (sorted_distinct name xs)
