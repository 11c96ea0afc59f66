-- A first guess at the verdicts, before the faulty parts of the first diagnosis are checked.
use Rattle.std.specs.Prelude.{◌≡◌, ℕ, zero, suc, ◌==◌, List, ◌⊎◌, Some, slice_get, if◌then◌else◌}
use Rattle.state_rules.specs.Graphs.{Graph}
use Rattle.minimiser.specs.LeastStates.{Suspect}
use Rattle.state_rules.specs.declared.blame.Blame.{Blame}
use Rattle.state_rules.specs.declared.blame.Blame.TheVariants.{Always, Sometimes, Never}
use Rattle.probe_report.specs.Verdicts.{blame_of}

-- the guess for a part, from its word and `suspect`: 1 if it is open and faulty in some diagnosis
abbrev pub presumed : ℕ → ℕ → Blame
presumed zero suspect = if suspect == 1 then Sometimes else Never
presumed (suc zero) suspect = Never
presumed (suc (suc n)) suspect = Always

-- the verdict on a part is right, or it is Sometimes and the part is open and faulty in some diagnosis
abbrev pub IsPresumed : Graph → List ℕ → List ℕ → List Blame → ℕ → Type 0
IsPresumed graph evidence costs verdicts part =
    (slice_get verdicts part ≡ Some (blame_of graph evidence costs part))
    ⊎ (Suspect graph evidence costs part × (slice_get verdicts part ≡ Some Sometimes))
