-- Sets of names.
use Rattle.std.specs.Prelude.{List, map}
use Rattle.std.specs.Borrow.{Bor}
use Rattle.indexmap.specs.IndexSet.{IndexSet}
use Rattle.text_rules.specs.Names.{Name}

-- the names in a set, in its order
abbrev pub names_in : {S : Type 0} → IndexSet (Bor Name) S → List Name
names_in names = map (λ (name : Bor Name). name.now) names.keys
