-- Every case keeps a place for each wire and each part.
use Rattle.std.proofs.Common.{◌≡◌, ℕ, Bool, List, [], ◌∷◌, map, length, refl, ap, sym, subst, ◌∙◌, Option, Some, None, Equal, arith}
use Rattle.std.specs.Prelude.{cond, not, nat_le}
use Rattle.std.specs.Ordering.{nat_cmp, is_eq}
use Rattle.std.specs.Cmp.Lexicographic.{slice_cmp}
use Rattle.std.specs.FinMap.Entries.{find-put, find-where_key}
use Rattle.std.proofs.lemmas.Map.Text.{is_eq-slice_cmp}
use Rattle.std.proofs.lemmas.Cmp.{nat_list_cmp_total}
use Rattle.std.proofs.lemmas.List.{length-set, length-replicate}
use Rattle.text_rules.specs.Names.{Name, same_name}
use Rattle.text_rules.proofs.NameLemmas.{equal_if_same}
use Rattle.state_rules.specs.Systems.{System}
use Rattle.script_lang.specs.Script.{Line, Blank, Refused, Ask, Request}
use Rattle.session_rules.specs.Replies.{Found}
use Rattle.session_rules.specs.Sessions.{Entry, Table, Change, Stays, Becomes, Ends, Move, Step, entry_of, without, changed, when_open, outcome, moves, left_by}
use Rattle.session_rules.specs.CaseSizes.{IsCaseOf, HasCasesOf}

-- the empty table has no case
pub HasCases-empty : (system : System) → HasCasesOf system []
HasCases-empty system session entry e = absurd (let never : ⊥ = cc in never)

equal_names : (a b : Name) → slice_cmp nat_cmp a b ≡ Equal → a ≡ b
equal_names a b tie = equal_if_same a b (sym (is_eq-slice_cmp a b) ∙ ap is_eq tie)

-- the entry that is found after one is removed
pub entry_of-without : (r s : Name) (table : Table) → entry_of r (without s table) ≡ cond (not (same_name r s)) (entry_of r table) None
entry_of-without r s table =
    find-where_key (slice_cmp nat_cmp) (λ n. not (same_name n s)) r (λ x tie. ap (λ n. not (same_name n s)) (sym (equal_names r x tie))) table

-- the entry that is found after one is added
pub entry_of-with : (r s : Name) (entry : Entry) (table : Table) → entry_of r (changed s (Becomes entry) table) ≡ cond (same_name r s) (Some entry) (entry_of r table)
entry_of-with r s entry table =
    find-put (slice_cmp nat_cmp) nat_list_cmp_total r s entry table ∙ ap (λ b. cond b (Some entry) (entry_of r table)) (is_eq-slice_cmp r s)

abbrev pub ChangeKeeps : System → Change → Type 0
ChangeKeeps system Stays = Unit {0}
ChangeKeeps system (Becomes entry) = IsCaseOf system entry.known
ChangeKeeps system Ends = Unit {0}

abbrev pub Keeps : System → List Move → Type 0
Keeps system [] = Unit {0}
Keeps system (move ∷ moves) = ChangeKeeps system move.change × Keeps system moves

-- ---- what moves leave

-- the change that counts: the last
abbrev pub last_change : Change → List Move → Change
last_change change [] = change
last_change change (move ∷ moves) = last_change move.change moves

abbrev pub step_from : Table → Name → Move → Step
step_from table session move = record { table = changed session move.change table; items = move.items }

pub left_by-last : (s : Name) (t : Table) (change : Change) (ms : List Move) → left_by (changed s change t) (map (step_from t s) ms) ≡ changed s (last_change change ms) t
left_by-last s t change [] = refl
left_by-last s t change (m ∷ ms) = left_by-last s t m.change ms

module _ (system : System) where
  last-keeps : (change : Change) (ms : List Move) → ChangeKeeps system change → Keeps system ms → ChangeKeeps system (last_change change ms)
  last-keeps change [] h k = h
  last-keeps change (m ∷ ms) h k = last-keeps m.change ms k.0 k.1

  lists-keeps : (entry : Entry) → IsCaseOf system entry.known → (found : List Found)
      → Keeps system (map (λ (f : Found). record { change = Becomes (record entry { point = f.point }); items = f.item ∷ [] }) found)
  lists-keeps entry h [] = tt
  lists-keeps entry h (f ∷ found) = (h, lists-keeps entry h found)

  when_open-keeps : (s : Name) (entry : Entry) → IsCaseOf system entry.known → (request : Request) → Keeps system (when_open system s entry request)
  when_open-keeps s entry h request = grind (arith, length-set, lists-keeps)

  outcome-keeps : (s : Name) (full : Bool) (entry : Option Entry) → ((e : Entry) → entry ≡ Some e → IsCaseOf system e.known) → (request : Request) → Keeps system (outcome system s full entry request)
  outcome-keeps s full entry h request = grind (arith, when_open-keeps, length-replicate)

  changed-keeps : (s : Name) (change : Change) (table : Table) → ChangeKeeps system change → HasCasesOf system table → HasCasesOf system (changed s change table)
  changed-keeps s Stays table h k = k
  changed-keeps s (Becomes entry) table h k = λ r found e. grind (arith, entry_of-with, k r)
  changed-keeps s Ends table h k = λ r found e. grind (arith, entry_of-without, k r)

  -- a line keeps the lengths of all cases
  pub moves-keep : (limit : ℕ) (table : Table) (l : Line) → HasCasesOf system table → HasCasesOf system (left_by table (moves system limit table l))
  moves-keep limit table Blank h = h
  moves-keep limit table (Refused refusal) h = h
  moves-keep limit table (Ask s request) h =
      let ms = outcome system s (nat_le limit (length table)) (entry_of s table) request in
      subst (HasCasesOf system) (sym (left_by-last s table Stays ms))
      (changed-keeps s (last_change Stays ms) table (last-keeps Stays ms tt (outcome-keeps s (nat_le limit (length table)) (entry_of s table) (h s) request)) h)
