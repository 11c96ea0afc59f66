-- In which diagnoses a part is faulty.
use Rattle.std.specs.Prelude.{ℕ, not, List, map}
use Rattle.state_rules.specs.Bits.{bit_in}
use Rattle.state_rules.specs.Graphs.{Graph}
use Rattle.conditioner.specs.Models.{diagnoses_under}
use Rattle.state_rules.specs.declared.blame.Blame.{Blame}
use Rattle.state_rules.specs.Verdicts.{verdict}

-- the verdict on a part, counted from 0
abbrev pub blame_of : Graph → List ℕ → List ℕ → ℕ → Blame
blame_of graph evidence costs part = verdict (map (λ state. not (bit_in state part)) (diagnoses_under graph evidence costs))
