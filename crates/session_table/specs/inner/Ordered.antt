-- The open sessions in the order of their names, each with a block of its own.
use Rattle.std.specs.Prelude.{◌≡◌, ◌≢◌, ℕ, ◌+◌, ◌<◌, ◌≤◌, List, [], ◌∷◌, map, length, IsTrue, slice_get, Some}
use Rattle.std.specs.Ordering.{nat_cmp}
use Rattle.std.specs.Cmp.Lexicographic.{slice_cmp}
use Rattle.std.specs.FinMap.Entries.{is_sorted}
use Rattle.std.specs.List.{AllWithin}
use Rattle.std.specs.declared.cmp.Ordering.TheVariants.{Less, Greater}
use Rattle.text_rules.specs.Names.{Name}
use Rattle.scratch_pool.specs.Pools.{Blocks, IsOut, free_blocks, block_words}
use Rattle.session_rules.specs.Sessions.{Entry, Table}
use Rattle.session_table.specs.inner.Blocks.{entry_in, block_size, IsLaidOut}
use Rattle.session_table.specs.declared.block.Layout.{Layout}
use Rattle.session_table.specs.declared.in_order.Open.{Open}

abbrev pub entry_at : Layout → Blocks → Open → Name × Entry
entry_at layout pool session = (session.name, entry_in layout (block_words pool session.block))

-- the table of the open sessions, in their order
abbrev pub table_of : Layout → Blocks → List Open → Table
table_of layout pool sessions = map (entry_at layout pool) sessions

abbrev pub blocks_by_name : List Open → List (Name × ℕ)
blocks_by_name sessions = map (λ session. (session.name, session.block)) sessions

-- each name is below all later ones
abbrev pub NamesRise : List Open → Type 0
NamesRise sessions = IsTrue (is_sorted (slice_cmp nat_cmp) (blocks_by_name sessions))

-- none of the sessions has the block
abbrev pub HasNone : ℕ → List Open → Type 0
HasNone block [] = Unit {0}
HasNone block (session ∷ sessions) = (session.block ≢ block) × HasNone block sessions

-- each session has a block of its own, which is out and laid out
abbrev pub HaveBlocks : Layout → Blocks → List Open → Type 0
HaveBlocks layout pool [] = Unit {0}
HaveBlocks layout pool (session ∷ sessions) =
    IsOut pool session.block
    × IsLaidOut layout (block_words pool session.block)
    × HasNone session.block sessions
    × HaveBlocks layout pool sessions

-- what holds of the sessions, if at most `limit` may be open and there is room for `capacity`
pub record AreKept (layout : Layout) (limit : ℕ) (pool : Blocks) (sessions : List Open) (capacity : ℕ) : Type 0 where
  pub rise : NamesRise sessions
  pub blocks : HaveBlocks layout pool sessions
  pub free : free_blocks pool + length sessions ≡ limit
  pub size : 0 < limit → pool.size ≡ block_size layout
  pub vars : layout.parts + layout.wires ≤ layout.vars
  pub room : limit ≤ capacity

-- the session of this name is at the place
abbrev pub HasName : List Open → ℕ → Name → Type 0
HasName sessions place name = (session : Open) × (slice_get sessions place ≡ Some session) × (session.name ≡ name)

-- a name belongs at a place: names before it are below, and those from it on are above
pub record IsGapFor (sessions : List Open) (place : ℕ) (name : Name) : Type 0 where
  pub within : place ≤ length sessions
  pub before : AllWithin (λ s. slice_cmp nat_cmp s.name name ≡ Less) sessions 0 place
  pub behind : AllWithin (λ s. slice_cmp nat_cmp s.name name ≡ Greater) sessions place (length sessions)
