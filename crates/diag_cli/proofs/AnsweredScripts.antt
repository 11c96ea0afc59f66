-- What was written if a script was answered.
use Rattle.std.proofs.Common.{◌≡◌, ◌≤◌, ℕ, List, [], ◌∷◌, ◌++◌, length, Option, sym, subst, codes, append_assoc, append-nil, arith}
use Rattle.std.specs.Prelude.{decimal}
use Rattle.std.specs.Io.KnownBytes.{Appends, append_known}
use Rattle.text_rules.specs.TextLines.{whole_lines}
use Rattle.text_rules.specs.Tokens.{spaced}
use Rattle.state_rules.specs.Systems.{System}
use Rattle.diag_edge.specs.Edge.{AppendsPrefix}
use Rattle.diag_edge.proofs.GrownBytes.{grows_more}
use Rattle.session_rules.specs.Items.{Item}
use Rattle.session_rules.specs.Sessions.{Table, Step, left_by, replies}
use Rattle.session_rules.specs.Moves.{line_moves, script_moves}
use Rattle.session_rules.specs.Spelling.{Writes, WritesPart}
use Rattle.session_rules.specs.Carrying.{Makes, BreaksOff}
use Rattle.session_rules.specs.CaseSizes.{HasCasesOf}
use Rattle.session_rules.proofs.Spellings.{writes_more, spells_one}
use Rattle.session_rules.proofs.Begun.{part_more, part_after}
use Rattle.session_rules.proofs.Broken.{said-append, said-replies, breaks_after, script_moves-append}
use Rattle.session_rules.proofs.KeptCases.{HasCases-empty}
use Rattle.session_core.proofs.ReplyTexts.{replies-have, broken_begins_more}
use Rattle.session_core.specs.Services.{Shown, moves_of, IsSound, open_system}
use Rattle.session_core.specs.declared.serving.TheConstants.{READ_LIMIT}
use Rattle.session_core.specs.Serving.{FailsBehind, FailsAtOnce}
use Rattle.session_core.proofs.WrittenReplies.{makes_over, breaks_over, parted}
use Rattle.device_files.specs.declared.status.Status.{Status}
use Rattle.device_files.specs.Output.{Output, FulfilsOutput}
use Rattle.diag_cli.specs.Behaviours.{ready_line}
use Rattle.diag_cli.specs.Fulfilled.{WritesFirst, IsStopped}
use Rattle.diag_cli.specs.inner.Serving.{answers_by}

-- ---- nothing is read after a write that failed

-- items were written, then an output was given or begun
pub first_given : (items : List Item) (output : Output) (status : Status) (a b c : Option (List ℕ)) → Writes a b items → FulfilsOutput output status b c → WritesFirst a c items
first_given items output status a b c written said = grind arith

-- if two texts were put together, one was, then the other
first_put : (a c : Option (List ℕ)) (xs ys : List ℕ) → Appends a c (xs ++ ys) → Appends a (append_known a xs) xs × Appends (append_known a xs) c ys
first_put a c xs ys put = grind (arith, append_assoc)

-- if some moves and others were made, the first were written first
first_of_all : (one : Table → List ℕ → List Step) (old new : Table) (lines more : List (List ℕ)) (a c : Option (List ℕ)) → Makes old new (script_moves one old (lines ++ more)) a c
    → (b : Option (List ℕ)) × Makes old (left_by old (script_moves one old lines)) (script_moves one old lines) a b × ((text : List ℕ) × Appends b c text)
first_of_all one old new lines more a c made = grind (arith, script_moves-append, said-append, parted, first_put)

-- if moves broke off, some text was put
broken_grows : (new : Table) (moves : List Step) (a b : Option (List ℕ)) → BreaksOff new moves a b → (text : List ℕ) × Appends a b text
broken_grows new moves a b broke = grind (arith, grows_more)

module _ (one : Table → List ℕ → List Step) (old new : Table) (a b : Option (List ℕ)) where
  -- lines were answered, and the lines after them broke off
  pub breaks_behind : (answered lines : List (List ℕ)) → FailsBehind one old new answered lines a b → BreaksOff new (script_moves one old (answered ++ lines)) a b
  breaks_behind answered lines failed = grind (arith, script_moves-append one old answered lines, breaks_after failed.made failed.broke)

  -- so all lines that the bytes end broke off
  pub breaks_at_once : (bytes : List ℕ) → FailsAtOnce one old new bytes a b → BreaksOff new (script_moves one old (whole_lines bytes)) a b
  breaks_at_once bytes at = grind (arith, breaks_behind)

-- the line `ready` was written
ready_put : (system : System) (parts wires : ℕ) (a b : Option (List ℕ)) → parts ≡ length system.parts → wires ≡ length system.wires
    → Appends a b (spaced (codes "ready" ∷ decimal parts ∷ decimal wires ∷ [])) → Writes a b (ready_line system ∷ [])
ready_put system parts wires a b p w grown = record {
  text = spaced (codes "ready" ∷ decimal parts ∷ decimal wires ∷ []);
  spelled = spells_one (ready_line system) _ (λ i. spaced (codes "ready" ∷ decimal (p i) ∷ decimal (w i) ∷ []));
  grown = grown;
}

module _ (shown : Shown) (sound : IsSound shown) where
  abbrev system : System
  system = open_system shown.system

  no_cases : (table : Table) → table ≡ [] → HasCasesOf system table
  no_cases table none = subst (HasCasesOf system) (sym none) (HasCases-empty system)

  -- The line `ready` was written, and no session is open.
  module _ (old : Table) (parts wires : ℕ) (a b : Option (List ℕ)) (none : old ≡ []) (p : parts ≡ length shown.system.parts) (w : wires ≡ length shown.system.wires)
      (ready : Appends a b (spaced (codes "ready" ∷ decimal parts ∷ decimal wires ∷ []))) where
    -- then the replies to lines
    pub ready_then : (new : Table) (lines : List (List ℕ)) (c : Option (List ℕ)) → Makes old new (script_moves (moves_of shown) old lines) b c → Writes a c (answers_by shown lines)
    ready_then new lines c made = grind (arith, makes_over shown sound.offered.texts old new lines b c (no_cases old none) made, writes_more a b c (ready_line system ∷ []) (replies system shown.limit [] lines) (ready_put system parts wires a b p w ready), said-replies system shown.limit old lines)

    -- if lines and more were answered, the lines were answered first
    pub answered_first : (new : Table) (lines more : List (List ℕ)) (c : Option (List ℕ)) → Makes old new (script_moves (moves_of shown) old (lines ++ more)) b c → WritesFirst a c (answers_by shown lines)
    answered_first new lines more c made =
        let first = first_of_all (moves_of shown) old new lines more b c made in
        grind (arith, ready_then (left_by old (script_moves (moves_of shown) old lines)) lines first.0 first.1)

    -- ---- a write failed

    -- in the replies to lines: what was written begins the answers to them and to any more
    pub lines_begun : (new : Table) (lines : List (List ℕ)) (c : Option (List ℕ)) → BreaksOff new (script_moves (moves_of shown) old lines) b c
        → (more : List (List ℕ)) → WritesPart a c (answers_by shown (lines ++ more))
    lines_begun new lines c broke more =
        let over = breaks_over shown sound.offered.texts old new lines b c (no_cases old none) broke in
        part_after a b c (ready_line system ∷ []) (replies system shown.limit [] (lines ++ more)) (ready_put system parts wires a b p w ready)
        (broken_begins_more shown.system sound.offered shown.limit [] new lines more b c (HasCases-empty system)
        (subst (λ (t : Table). BreaksOff new (script_moves (line_moves system shown.limit) t lines) b c) none over))

    -- the bytes are a front and a piece: the front was answered, and a write failed in the lines after it
    stopped_in : (new : Table) (bytes fed piece : List ℕ) (lines : List (List ℕ)) (c : Option (List ℕ)) → bytes ≡ fed ++ piece → length piece ≤ READ_LIMIT
        → FailsBehind (moves_of shown) old new (whole_lines fed) lines b c → IsStopped (answers_by shown) bytes a c
    stopped_in new bytes fed piece lines c all few failed = grind (arith, broken_grows new (script_moves (moves_of shown) failed.table lines) failed.middle c failed.broke, ready_then failed.table (whole_lines fed) failed.middle failed.made)

    pub stopped_at_once : (new : Table) (bytes : List ℕ) (c : Option (List ℕ)) → FailsAtOnce (moves_of shown) old new bytes b c → IsStopped (answers_by shown) bytes a c
    stopped_at_once new bytes c at = stopped_in new bytes at.fed at.piece at.lines c at.parts at.one_read at.failed

    pub stopped_at_end : (new : Table) (bytes : List ℕ) (lines : List (List ℕ)) (c : Option (List ℕ)) → FailsBehind (moves_of shown) old new (whole_lines bytes) lines b c → IsStopped (answers_by shown) bytes a c
    stopped_at_end new bytes lines c failed = stopped_in new bytes bytes [] lines c (sym (append-nil bytes)) (omega arith) failed

  -- a write failed in the line `ready`: that begins the answers to any lines
  pub ready_begun : (parts wires : ℕ) (a b : Option (List ℕ)) → parts ≡ length shown.system.parts → wires ≡ length shown.system.wires
      → AppendsPrefix a b (spaced (codes "ready" ∷ decimal parts ∷ decimal wires ∷ [])) → (lines : List (List ℕ)) → WritesPart a b (answers_by shown lines)
  ready_begun parts wires a b p w (part, rest, all, grown) lines = grind (arith, part_more a b (ready_line system ∷ []) (replies system shown.limit [] lines), spells_one (ready_line system) (part ++ rest), replies-have shown.system sound.offered shown.limit)
