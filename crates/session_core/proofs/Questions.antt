-- The answers about a case, from the answers of the graph under its words.
use Rattle.std.proofs.Common.{◌≡◌, ◌≢◌, ℕ, suc, ◌+◌, ◌<◌, Bool, true, false, not, List, [], ◌∷◌, ◌++◌, map, length, get_or, drop, Option, Some, None, refl, ap, ap₂, ◌∙◌, arith, codes}
use Rattle.std.specs.Prelude.{is_some, slice_get, if◌then◌else◌}
use Rattle.std.proofs.lemmas.List.{drop_more}
use Rattle.text_rules.specs.Names.{Name}
use Rattle.state_rules.specs.Bits.{bit_in}
use Rattle.state_rules.specs.Cases.{Case}
use Rattle.state_rules.specs.Ranking.{least, diagnoses}
use Rattle.state_rules.specs.Systems.{System}
use Rattle.state_rules.specs.declared.blame.Blame.{Blame}
use Rattle.state_rules.specs.Verdicts.{verdict}
use Rattle.state_rules.proofs.Diagnoses.{no_diagnosis, has_diagnosis}
use Rattle.session_rules.specs.Replies.{inconsistent, seen_at, probe_line, probe_lines, blame_word, blame_lines, if_any}
use Rattle.session_core.specs.inner.Texts.{blame_text}
use Rattle.session_core.specs.inner.Telling.{unseen_line, verdict_lines}

-- ---- a wire that is seen or not

pub unseen-one : (system : System) (s : Name) (known : Case) (name : Name) (wire : ℕ) → false ≡ is_some (seen_at known wire) → unseen_line system s known name wire ≡ probe_line system s known name wire ∷ []
unseen-one system s known name wire e = grind arith

-- ---- the lines left

-- the lines from a wire on begin with its own
pub lines-next : (system : System) (s : Name) (known : Case) (names : List Name) (i : ℕ) → i < length names
    → probe_lines system s known i (drop i names) ≡ unseen_line system s known (get_or names i []) i ++ probe_lines system s known (i + 1) (drop (i + 1) names)
lines-next system s known names i h =
    ap (probe_lines system s known i) (drop_more names i [] h) ∙ by (is_some (seen_at known i))
  where
    rest : List (List (List ℕ))
    rest = probe_lines system s known (i + 1) (drop (i + 1) names)

    by : (b : Bool) → (if b then rest else probe_line system s known (get_or names i []) i ∷ rest)
        ≡ (elim b as (λ (_ : Bool). List (List (List ℕ))) [ true ↦ [] | false ↦ probe_line system s known (get_or names i []) i ∷ [] ]) ++ rest
    by true = refl
    by false = refl

-- so do the verdicts from a part on
pub verdicts-next : (s : Name) (names : List Name) (verdicts : List Blame) (i : ℕ) (v : Blame) → i < length names → i < length verdicts
    → verdict_lines s (drop i names) (drop i verdicts) ≡ ((s ∷ codes "blame" ∷ get_or names i [] ∷ blame_text (get_or verdicts i v) ∷ []) ∷ []) ++ verdict_lines s (drop (i + 1) names) (drop (i + 1) verdicts)
verdicts-next s names verdicts i v h g = rw (drop_more names i [] h, drop_more verdicts i v g) refl

-- ---- whether some state agrees

pub if_any-none : (costs : List ℕ) (s : Name) (hs : List (List Bool)) (lines : List (List (List ℕ))) → false ≡ is_some (least costs hs) → if_any s hs lines ≡ inconsistent s ∷ []
if_any-none costs s hs lines e = grind arith

pub if_any-some : (costs : List ℕ) (s : Name) (hs : List (List Bool)) (lines : List (List (List ℕ))) → true ≡ is_some (least costs hs) → if_any s hs lines ≡ lines
if_any-some costs s hs lines e = grind arith

by_least-none : (costs : List ℕ) (s : Name) (hs : List (List Bool)) (lines : List (List (List ℕ))) (o : Option ℕ) → least costs hs ≡ o → false ≡ is_some o → if_any s (diagnoses costs hs) lines ≡ inconsistent s ∷ []
by_least-none costs s hs lines None e f = ap (λ ds. if_any s ds lines) (no_diagnosis costs hs e)
by_least-none costs s hs lines (Some n) e f = absurd (let never : ⊥ = cc in never)

pub if_diagnosis-none : (costs : List ℕ) (s : Name) (hs : List (List Bool)) (lines : List (List (List ℕ))) → false ≡ is_some (least costs hs) → if_any s (diagnoses costs hs) lines ≡ inconsistent s ∷ []
if_diagnosis-none costs s hs lines e = by_least-none costs s hs lines (least costs hs) refl e

-- a list that is not empty
if_any-nonempty : (s : Name) (ds : List (List Bool)) (lines : List (List (List ℕ))) → ds ≢ [] → if_any s ds lines ≡ lines
if_any-nonempty s ds lines some = grind arith

pub if_diagnosis-some : (costs : List ℕ) (s : Name) (hs : List (List Bool)) (lines : List (List (List ℕ))) → true ≡ is_some (least costs hs) → if_any s (diagnoses costs hs) lines ≡ lines
if_diagnosis-some costs s hs lines e = if_any-nonempty s (diagnoses costs hs) lines (has_diagnosis costs hs e)

-- ---- blame

same_word : (b : Bool) (faulty : List Bool) → blame_text (verdict (b ∷ faulty)) ≡ blame_word (b ∷ faulty)
same_word b faulty = grind arith

verdict_word : (ds : List (List Bool)) (part : ℕ) → ds ≢ [] → blame_text (verdict (map (λ (state : List Bool). not (bit_in state part)) ds)) ≡ blame_word (map (λ (state : List Bool). not (bit_in state part)) ds)
verdict_word [] part some = absurd (some refl)
verdict_word (d ∷ ds) part some = same_word (not (bit_in d part)) (map (λ (state : List Bool). not (bit_in state part)) ds)

-- The lines by verdicts are those by diagnoses.
pub blame_lines-are : (s : Name) (ds : List (List Bool)) (part : ℕ) (names : List Name) (verdicts : List Blame) → ds ≢ [] → length verdicts ≡ length names
    → ((i : ℕ) → i < length names → slice_get verdicts i ≡ Some (verdict (map (λ (state : List Bool). not (bit_in state (part + i))) ds)))
    → verdict_lines s names verdicts ≡ blame_lines s ds part names
blame_lines-are s ds part [] verdicts some long each = refl
blame_lines-are s ds part (name ∷ names) [] some long each = absurd (omega (arith, long))
blame_lines-are s ds part (name ∷ names) (v ∷ verdicts) some long each =
    let first : Some v ≡ Some (verdict (map (λ (state : List Bool). not (bit_in state (part + 0))) ds)) = each 0 (omega arith) in
    let here : part + 0 ≡ part = omega arith in
    let same : v ≡ verdict (map (λ (state : List Bool). not (bit_in state part)) ds) = (let e : v ≡ verdict (map (λ (state : List Bool). not (bit_in state (part + 0))) ds) = cc in e ∙ ap (λ n. verdict (map (λ (state : List Bool). not (bit_in state n)) ds)) here) in
    ap₂ (λ word lines. (s ∷ codes "blame" ∷ name ∷ word ∷ []) ∷ lines)
    (ap blame_text same ∙ verdict_word ds part some)
    (blame_lines-are s ds (part + 1) names verdicts some (omega (arith, long)) (λ i h. later i h))
  where
    later : (i : ℕ) → i < length names → slice_get verdicts i ≡ Some (verdict (map (λ (state : List Bool). not (bit_in state (part + 1 + i))) ds))
    later i h = grind (arith, each (suc i))
