-- The answers about a case, which stays as it is.
use Rattle.std.specs.Prelude.{◌≡◌, ℕ, ◌<◌, Bool, Option, List, [], ◌∷◌, ◌++◌, map, length, codes, is_some, true, false}
use Rattle.text_rules.specs.Names.{Name}
use Rattle.state_rules.specs.Cases.{Case}
use Rattle.state_rules.specs.Systems.{System}
use Rattle.state_rules.specs.Numbers.{probed}
use Rattle.state_rules.specs.declared.blame.Blame.{Blame as Verdict}
use Rattle.session_rules.specs.Items.{line}
use Rattle.session_rules.specs.Replies.{end_line, probe_line, probe_lines, if_any, seen_at}
use Rattle.session_rules.specs.Spelling.{Writes}
use Rattle.session_core.specs.inner.Texts.{blame_text}
use Rattle.session_core.specs.inner.Desks.{OnDesk, least_seen}

-- the answer about all wires
abbrev pub probes_told : System → Name → Case → List (List (List ℕ))
probes_told system session known =
    if_any session (system.consistent known) (probe_lines system session known 0 system.wires ++ end_line session ∷ [])

-- the line of a wire, unless it is seen
abbrev pub unseen_line : System → Name → Case → Name → ℕ → List (List (List ℕ))
unseen_line system session known name wire =
    elim (is_some (seen_at known wire)) as (λ _. List (List (List ℕ))) [ true ↦ [] | false ↦ probe_line system session known name wire ∷ [] ]

-- a line for each part with its verdict
abbrev pub verdict_lines : Name → List Name → List Verdict → List (List (List ℕ))
verdict_lines session [] verdicts = []
verdict_lines session (name ∷ names) [] = []
verdict_lines session (name ∷ names) (verdict ∷ verdicts) =
    (session ∷ codes "blame" ∷ name ∷ blame_text verdict ∷ []) ∷ verdict_lines session names verdicts

-- Some of these lines were written, and `left` are left.
pub record Said (before now : Option (List ℕ)) (left all : List (List (List ℕ))) : Type 0 where
  pub done : List (List (List ℕ))
  pub written : Writes before now (map line done)
  pub both : done ++ left ≡ all

-- the numbers on a desk say of each wire what the case does
abbrev pub AreProbed : OnDesk → Type 0
AreProbed desk = (wire : ℕ) (bit : Bool) → wire < length desk.system.wires → probed desk.numbers wire bit ≡ least_seen desk wire bit
