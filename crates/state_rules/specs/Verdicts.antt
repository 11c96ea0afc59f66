-- In which diagnoses a part is faulty.
use Rattle.std.specs.Prelude.{Bool, List, [], ◌∷◌, if◌then◌else◌}
use Rattle.std.specs.List.{list_all, list_any}
use Rattle.state_rules.specs.declared.blame.Blame.{Blame}
use Rattle.state_rules.specs.declared.blame.Blame.TheVariants.{Always, Sometimes, Never, Inconsistent}

-- the verdict, by whether the part is faulty in each diagnosis
abbrev pub verdict : List Bool → Blame
verdict [] = Inconsistent
verdict (b ∷ faulty) =
    if list_all (λ x. x) (b ∷ faulty) then Always else if list_any (λ x. x) (b ∷ faulty) then Sometimes else Never
