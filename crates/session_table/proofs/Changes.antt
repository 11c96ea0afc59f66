-- The contracts' view of the table changes as the fields of the open sessions do.
use Rattle.std.proofs.Common.{◌≡◌, ℕ, ◌<◌, ◌≤◌, T, List, length, get_or, set, replicate, ap, sym, ◌∙◌, subst, Some, None, Result, Ok, Err, IfOk, IfErr, arith}
use Rattle.std.specs.Prelude.{not, slice_get, IsErr, IfSome, IfNone, vec_capacity}
use Rattle.std.specs.List.{insert, remove}
use Rattle.std.specs.Result.{result_ok}
use Rattle.std.specs.FinMap.Entries.{is_sorted, is_sorted-put, is_sorted-where_key}
use Rattle.std.proofs.lemmas.Cmp.{nat_list_cmp_total}
use Rattle.std.proofs.lemmas.List.{length-map}
use Rattle.std.proofs.lemmas.List.Edits.{length-insert, length-remove}
use Rattle.std.proofs.lemmas.Option.{slice_get-map, slice_get_within, slice_get_read}
use Rattle.text_rules.specs.Names.{Name, same_name}
use Rattle.state_rules.specs.Cases.{empty_case}
use Rattle.scratch_pool.specs.Pools.{Blocks, IsOut, IsFree, IsSound, block_words, with_block, taken, given}
use Rattle.scratch_pool.proofs.LentWords.{written-block, taken-zeroed, taken-out, taken-free, given-free, length-block}
use Rattle.session_rules.specs.Sessions.{Entry, Table, entry_of, with_entry, without}
use Rattle.session_table.specs.Tables.{Opened, StandsAt, fresh_entry}
use Rattle.session_table.specs.inner.Blocks.{entry_in, block_size, IsLaidOut}
use Rattle.session_table.specs.inner.Ordered.{entry_at, table_of, blocks_by_name, NamesRise, AreKept, HasName, IsGapFor}
use Rattle.session_table.specs.declared.in_order.Open.{Open}
use Rattle.session_table.specs.declared.open_sessions.OpenSessions.TheInside.{Inside}
use Rattle.session_table.specs.contracts.open_sessions.OpenSessions.{the_view}
use Rattle.session_table.proofs.Lookups.{order, IsGap, find_at, put_at, put_same, without_at, put_gap, find_gap}
use Rattle.session_table.proofs.MappedSessions.{sorted_alike, map-insert, map-remove, gap_map}
use Rattle.session_table.proofs.SessionSearch.{so, as_true}
use Rattle.session_table.proofs.NotedEvidence.{zeros-entry, zeros-laid}
use Rattle.session_table.proofs.KeptBlocks.{have_at, have_insert, given_at, written_at, have_written, none_taken, table_taken, have_taken}

-- what holds of the fields
abbrev pub Kept : Inside → Type 0
Kept inside = AreKept inside.layout inside.limit inside.pool inside.«open».items (vec_capacity inside.«open»)

-- the table that the fields make
abbrev pub table_in : Inside → Table
table_in inside = table_of inside.layout inside.pool inside.«open».items

-- the entry of a block
abbrev pub entry_in_block : Inside → ℕ → Entry
entry_in_block inside block = entry_in inside.layout (block_words inside.pool block)

abbrev name_and_block : Open → Name × ℕ
name_and_block session = (session.name, session.block)

-- the table is in the order of its names
table_sorted : (inside : Inside) → Kept inside → T (is_sorted order (table_in inside))
table_sorted inside kept =
    subst T (sorted_alike (λ session. session.block) (λ session. entry_in_block inside session.block) inside.«open».items)
    (so (is_sorted order (blocks_by_name inside.«open».items)) kept.rise)

module _ (inside : Inside) (kept : Kept inside) where
  abbrev sessions : List Open
  sessions = inside.«open».items

  stands_at : (place : ℕ) (session : Open) (name : Name) → slice_get sessions place ≡ Some session → session.name ≡ name
      → StandsAt (table_in inside) place name (entry_in_block inside session.block)
  stands_at place session name here named =
      let at : slice_get (table_in inside) place ≡ Some (name, entry_in_block inside session.block) = grind (arith, slice_get-map) in
      record { at = at; found = find_at (table_in inside) place name _ (table_sorted inside kept) at; kept = put_same (table_in inside) place name _ (table_sorted inside kept) at }

  table_gap : (place : ℕ) (name : Name) → IsGapFor sessions place name → IsGap (table_in inside) place name
  table_gap place name gap = gap_map (λ session. entry_in_block inside session.block) sessions place name gap

-- ---- a session is found, or not

module _ (inside : Inside) (shown : Opened) (shows : the_view inside ≡ shown) (kept : Kept inside)
    (name : Name) (sessions : List Open) (same : sessions ≡ inside.«open».items) where
  table_is : table_in inside ≡ shown.table
  table_is = ap (λ (o : Opened). o.table) shows

  pub found : (r : Result ℕ ℕ) → IfOk r (λ place. HasName sessions place name)
      → IfSome (result_ok r) (λ place. (entry : Entry) × StandsAt shown.table place name entry)
  found (Ok place) has = (entry_in_block inside has.0.block, rw (← table_is) (stands_at inside kept place has.0 name (rw (← same) has.1) has.2))
  found (Err place) has = tt

  -- its place is one of the table's
  pub found-within : (r : Result ℕ ℕ) → IfOk r (λ place. HasName sessions place name) → IfSome (result_ok r) (λ place. place < length shown.table)
  found-within r has = grind (arith, found, slice_get_within)

  pub absent : (r : Result ℕ ℕ) → IfErr r (λ place. IsGapFor sessions place name)
      → IfNone (result_ok r) (entry_of name shown.table ≡ None)
  absent (Ok place) gap = tt
  absent (Err place) gap = rw (← table_is) (find_gap (table_in inside) place name (table_gap inside kept place name (rw (← same) gap)))

  -- a name that is not in the table is not found
  pub closed : (r : Result ℕ ℕ) → IfOk r (λ place. HasName sessions place name) → entry_of name shown.table ≡ None → IsErr r
  closed r has none = grind (arith, found)

-- ---- a session at a place

module _ (inside : Inside) (shown : Opened) (shows : the_view inside ≡ shown) (kept : Kept inside)
    (place : ℕ) (session : Open) (within : place < length shown.table) (read : session ≡ get_or inside.«open».items place session) where
  abbrev items : List Open
  items = inside.«open».items

  here : slice_get items place ≡ Some session
  here = grind (arith, length-map, slice_get_read)

  pub is_out : IsOut inside.pool session.block
  is_out = (have_at inside.layout inside.pool items place session kept.blocks here).0

  pub is_laid_out : IsLaidOut inside.layout (block_words inside.pool session.block)
  is_laid_out = (have_at inside.layout inside.pool items place session kept.blocks here).1

  stood : (name : Name) (entry : Entry) → StandsAt shown.table place name entry → StandsAt (table_in inside) place name entry
  stood name entry stands = subst (λ (o : Opened). StandsAt o.table place name entry) (sym shows) stands

  name_and_entry : (name : Name) (entry : Entry) → StandsAt shown.table place name entry
      → (session.name ≡ name) × (entry_in_block inside session.block ≡ entry)
  name_and_entry name entry stands = grind (arith, slice_get-map, here)

  pub entry_here : (name : Name) (entry : Entry) → StandsAt shown.table place name entry
      → entry ≡ entry_in_block inside session.block
  entry_here name entry stands = sym (name_and_entry name entry stands).1

  -- its block is written, and so holds another entry
  module _ (words : List ℕ) (sound : IsSound inside.pool) (long : length words ≡ length (block_words inside.pool session.block))
      (laid : IsLaidOut inside.layout words) where
    abbrev pool : Blocks
    pool = with_block inside.pool session.block words

    size : length words ≡ inside.pool.size
    size = grind (arith, length-block, is_out)

    pub written : AreKept inside.layout inside.limit pool inside.«open».items (vec_capacity inside.«open»)
    written = grind (arith, have_written, here, size)

    written_set : (name : Name) (entry : Entry) → StandsAt shown.table place name entry
        → table_in (record inside { pool = pool }) ≡ set (table_in inside) place (name, entry_in inside.layout words)
    written_set name entry stands = grind (arith, name_and_entry, written_at, here, size)

    pub shows_written : (name : Name) (entry : Entry) → StandsAt shown.table place name entry
        → the_view (record inside { pool = pool }) ≡ record shown { table = with_entry name (entry_in inside.layout words) shown.table }
    shows_written name entry stands = grind (arith, written_set, put_at, table_sorted)

    pub stands_written : (name : Name) (entry : Entry) → StandsAt shown.table place name entry
        → StandsAt (table_in (record inside { pool = pool })) place name (entry_in inside.layout words)
    stands_written name entry stands =
        rw (written-block inside.pool sound session.block is_out words size) at (stands_at (record inside { pool = pool }) written place session name here (name_and_entry name entry stands).0)

  -- it closes
  rise_given : NamesRise (remove items place)
  rise_given =
      let pairs : List (Name × ℕ) = blocks_by_name items in
      let sorted = so (is_sorted order pairs) kept.rise in
      let at : slice_get pairs place ≡ Some (session.name, session.block) = grind (arith, slice_get-map, here) in
      let left = without_at pairs place session.name session.block sorted at ∙ sym (map-remove name_and_block items place) in
      as_true _ (subst (λ (es : List (Name × ℕ)). T (is_sorted order es)) left (is_sorted-where_key order (λ name. not (same_name name session.name)) pairs sorted))

  pub gave : AreKept inside.layout inside.limit (given inside.pool session.block) (remove inside.«open».items place) (vec_capacity inside.«open»)
  gave =
      let blocks = given_at inside.layout inside.pool items place session kept.blocks here in
      grind (arith, rise_given, blocks, given-free inside.pool session.block is_out, length-remove items place (slice_get_within items place session here))

  pub shows_given : (name : Name) (entry : Entry) → StandsAt shown.table place name entry
      → record (the_view inside) { table = table_of inside.layout (given inside.pool session.block) (remove inside.«open».items place) } ≡ record shown { table = without name shown.table }
  shows_given name entry stands =
      grind (arith, map-remove (entry_at inside.layout inside.pool) items place, without_at (table_in inside) place name entry (table_sorted inside kept) (stood name entry stands).at)

-- ---- a session opens

module _ (inside : Inside) (shown : Opened) (shows : the_view inside ≡ shown) (kept : Kept inside)
    (place : ℕ) (name : Name) (block : ℕ) (gap : IsGapFor inside.«open».items place name) (sound : IsSound inside.pool)
    (free : IsFree inside.pool block) (room : length shown.table < shown.limit) where
  abbrev before : List Open
  before = inside.«open».items

  abbrev session : Open
  session = record { name = name; block = block }

  few : length before < inside.limit
  few = grind (arith, length-map)

  zeros : block_words (taken inside.pool block) block ≡ replicate (block_size inside.layout) 0
  zeros = grind (arith, taken-zeroed, few)

  rise_taken : NamesRise (insert before place session)
  rise_taken =
      let pairs : List (Name × ℕ) = blocks_by_name before in
      let more = is_sorted-put order nat_list_cmp_total name block pairs (so (is_sorted order pairs) kept.rise) in
      grind (arith, map-insert name_and_block before place session, put_gap pairs place name block (gap_map (λ s. s.block) before place name gap), more)

  pub took : (capacity : ℕ) → vec_capacity inside.«open» ≤ capacity
      → AreKept inside.layout inside.limit (taken inside.pool block) (insert inside.«open».items place (record { name = name; block = block })) capacity
  took capacity grown = grind (arith, rise_taken, have_insert, taken-out, zeros, zeros-laid, none_taken, have_taken, taken-free, length-insert)

  pub shows_taken : record (the_view inside) { table = table_of inside.layout (taken inside.pool block) (insert inside.«open».items place (record { name = name; block = block })) }
      ≡ record shown { table = with_entry name (fresh_entry shown) shown.table }
  shows_taken =
      let entry : Entry = record { known = empty_case inside.layout.wires inside.layout.parts; point = None } in
      grind (
        arith,
        map-insert (entry_at inside.layout (taken inside.pool block)) before place session,
        table_taken inside.layout inside.pool sound block free before kept.blocks,
        zeros,
        zeros-entry inside.layout kept.vars,
        put_gap (table_in inside) place name entry (table_gap inside kept place name gap),
      )
