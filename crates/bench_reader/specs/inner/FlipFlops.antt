-- The outputs of flip-flops, as the code keeps them.
use Rattle.std.specs.Prelude.{Bool}
use Rattle.std.specs.List.{list_any}
use Rattle.std.specs.Borrow.{Bor}
use Rattle.indexmap.specs.IndexSet.{IndexSet}
use Rattle.text_rules.specs.Names.{Name, same_name}

-- whether the set `outputs` has this name
abbrev pub is_kept : {S : Type 0} → IndexSet (Bor Name) S → Name → Bool
is_kept outputs name = list_any (λ (k : Bor Name). same_name name k.now) outputs.keys
