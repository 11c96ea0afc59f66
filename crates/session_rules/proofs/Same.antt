-- Two systems whose states are the same for each of their cases, and the rest too, answer alike.
use Rattle.std.proofs.Common.{◌≡◌, ℕ, ◌+◌, Bool, List, [], ◌∷◌, map, length, refl, ap, Option, Some, arith}
use Rattle.std.specs.Prelude.{nat_le}
use Rattle.std.specs.Option.{option_map_or}
use Rattle.std.proofs.lemmas.List.{length-set}
use Rattle.text_rules.specs.Names.{Name}
use Rattle.state_rules.specs.Cases.{Case}
use Rattle.state_rules.specs.Systems.{System}
use Rattle.device_model.specs.Devices.{place_of}
use Rattle.script_lang.specs.Script.{Line, Blank, Refused, Ask, Request, Level, Levels, Question, Probe, line_of}
use Rattle.session_rules.specs.Refusals.{refusal_row, error_words}
use Rattle.session_rules.specs.declared.refusal.Refusal.TheVariants.{NoWire}
use Rattle.session_rules.specs.Replies.{next_of, least_at, probe_line, probe_lines, if_any, told}
use Rattle.session_rules.specs.Sessions.{Entry, Table, Step, entry_of, when_open, outcome, moves, left_by, replies}
use Rattle.session_rules.specs.Moves.{line_moves, script_moves}
use Rattle.session_rules.specs.CaseSizes.{IsCaseOf, HasCasesOf}
use Rattle.session_rules.proofs.KeptCases.{step_from, moves-keep}
use Rattle.session_rules.proofs.Broken.{said-replies}

-- Two ways to answer by moves that agree while something holds that lines keep
module _ (one other : Table → List ℕ → List Step) (Holds : Table → Type 0) (kept : (t : Table) (l : List ℕ) → Holds t → Holds (left_by t (one t l))) (agree : (t : Table) (l : List ℕ) → Holds t → one t l ≡ other t l) where
  moves_of_lines-same : (t : Table) (ls : List (List ℕ)) → Holds t → script_moves one t ls ≡ script_moves other t ls
  moves_of_lines-same t [] h = refl
  moves_of_lines-same t (l ∷ ls) h = grind (arith, moves_of_lines-same (left_by t (one t l)) ls (kept t l h))

module _ (system : System) (consistent : Case → List (List Bool)) (same : (known : Case) → IsCaseOf system known → system.consistent known ≡ consistent known) where
  -- the system with the other states
  abbrev other : System
  other = record system { consistent = consistent }

  least_at-same : (known : Case) (wire : ℕ) (bit : Bool) (seen : Option Bool) → IsCaseOf system known → least_at system known wire bit seen ≡ least_at other known wire bit seen
  least_at-same known wire bit seen h = grind (arith, length-set)

  probe_line-same : (s : Name) (known : Case) (name : Name) (wire : ℕ) → IsCaseOf system known → probe_line system s known name wire ≡ probe_line other s known name wire
  probe_line-same s known name wire h = grind (arith, least_at-same)

  probe_lines-same : (s : Name) (known : Case) (wire : ℕ) (names : List Name) → IsCaseOf system known → probe_lines system s known wire names ≡ probe_lines other s known wire names
  probe_lines-same s known wire [] h = refl
  probe_lines-same s known wire (name ∷ names) h = grind (arith, probe_line-same s known name wire h, probe_lines-same s known (wire + 1) names h)

  -- the answer to a question
  told-same : (s : Name) (known : Case) (question : Question) → IsCaseOf system known → told system s known question ≡ told other s known question
  told-same s known (Probe name) h =
      λ i. option_map_or (λ wire. if_any s (same known h i) (probe_line-same s known name wire h i ∷ [])) (place_of name system.wires) ((s ∷ error_words (refusal_row NoWire)) ∷ [])
  told-same s known question h = grind (arith, probe_lines-same)

  -- what comes next
  next_of-same : (s : Name) (known : Case) → IsCaseOf system known → next_of system s known ≡ next_of other s known
  next_of-same s known h = grind arith

  when_open-same : (s : Name) (entry : Entry) (request : Request) → IsCaseOf system entry.known → when_open system s entry request ≡ when_open other s entry request
  when_open-same s entry Level h = grind arith
  when_open-same s entry (Levels count) h = grind arith
  when_open-same s entry request h = grind (arith, told-same, next_of-same)

  outcome-same : (s : Name) (full : Bool) (entry : Option Entry) (request : Request) → ((e : Entry) → entry ≡ Some e → IsCaseOf system e.known)
      → outcome system s full entry request ≡ outcome other s full entry request
  outcome-same s full entry request h = grind (arith, when_open-same)

  moves-same : (limit : ℕ) (table : Table) (l : Line) → HasCasesOf system table → moves system limit table l ≡ moves other limit table l
  moves-same limit table Blank h = refl
  moves-same limit table (Refused refusal) h = refl
  moves-same limit table (Ask s request) h = ap (map (step_from table s)) (outcome-same s (nat_le limit (length table)) (entry_of s table) request (h s))

  -- the moves of a script are the same in both
  pub script_moves-same : (limit : ℕ) (table : Table) (lines : List (List ℕ)) → HasCasesOf system table
      → script_moves (line_moves system limit) table lines ≡ script_moves (line_moves other limit) table lines
  script_moves-same limit = moves_of_lines-same _ _ (HasCasesOf system) (λ t l. moves-keep system limit t (line_of l)) (λ t l. moves-same limit t (line_of l))

  -- so are its replies
  pub replies-same : (limit : ℕ) (table : Table) (lines : List (List ℕ)) → HasCasesOf system table → replies system limit table lines ≡ replies other limit table lines
  replies-same limit table lines h = grind (arith, said-replies system limit table lines, said-replies other limit table lines, script_moves-same limit table lines h)
