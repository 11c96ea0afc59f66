-- A look-up among the words of gates, gate by gate.
use Rattle.std.proofs.Common.{◌≡◌, ℕ, ◌+◌, ◌<◌, Bool, false, List, map, drop, get_or, length, Option}
use Rattle.std.specs.Map.{lookup}
use Rattle.std.proofs.lemmas.List.{drop_more}
use Rattle.text_rules.specs.Names.{Name}
use Rattle.device_model.specs.declared.gates.Kind.{Kind}
use Rattle.device_model.specs.Gates.{word}

-- the first of some gates whose word passes a test
abbrev pub first_named : (Name → Bool) → List Kind → Option Kind
first_named test gates = lookup test (map (λ gate. (word gate, gate)) gates)

-- a gate that does not pass is skipped
pub first_named-later : (test : Name → Bool) (gates : List Kind) (i : ℕ) (default : Kind) → i < length gates → test (word (get_or gates i default)) ≡ false
    → first_named test (drop i gates) ≡ first_named test (drop (i + 1) gates)
first_named-later test gates i default l t = rw (drop_more gates i default l) (rw t)
