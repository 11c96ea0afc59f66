-- Sessions keep their blocks while one is written, handed out or given back.
use Rattle.std.proofs.Common.{◌≡◌, ◌≢◌, ℕ, zero, suc, List, [], ◌∷◌, ◌++◌, length, set, refl, sym, subst, Some, arith}
use Rattle.std.specs.Prelude.{slice_get}
use Rattle.std.specs.List.{insert, remove}
use Rattle.std.proofs.lemmas.List.{get_or_default}
use Rattle.std.proofs.lemmas.Option.{same_Some, none-some}
use Rattle.scratch_pool.specs.Pools.{Blocks, IsOut, IsFree, IsSound, block_words, with_block, taken, given}
use Rattle.scratch_pool.proofs.LentWords.{written-block, written-others, taken-others, taken-stays_out, given-stays_out}
use Rattle.session_table.specs.inner.Blocks.{entry_in, IsLaidOut}
use Rattle.session_table.specs.inner.Ordered.{table_of, HasNone, HaveBlocks}
use Rattle.session_table.specs.declared.block.Layout.{Layout}
use Rattle.session_table.specs.declared.in_order.Open.{Open}

none_at : (block : ℕ) (sessions : List Open) (place : ℕ) (s : Open) → HasNone block sessions → slice_get sessions place ≡ Some s
    → s.block ≢ block
none_at block [] place s none at = absurd (none-some s at)
none_at block (x ∷ xs) zero s none at = subst (λ (o : Open). o.block ≢ block) (same_Some x s at) none.0
none_at block (x ∷ xs) (suc place) s none at = none_at block xs place s none.1 at

none_remove : (block : ℕ) (sessions : List Open) (place : ℕ) → HasNone block sessions → HasNone block (remove sessions place)
none_remove block sessions zero none = grind arith
none_remove block [] (suc place) none = tt
none_remove block (x ∷ xs) (suc place) none = (none.0, none_remove block xs place none.1)

none_insert : (block : ℕ) (sessions : List Open) (place : ℕ) (s : Open) → HasNone block sessions → s.block ≢ block
    → HasNone block (insert sessions place s)
none_insert block sessions zero s none ne = grind arith
none_insert block [] (suc place) s none ne = (ne, tt)
none_insert block (x ∷ xs) (suc place) s none ne = (none.0, none_insert block xs place s none.1 ne)

none_last : (block : ℕ) (sessions : List Open) (s : Open) → HasNone block (sessions ++ s ∷ [])
    → HasNone block sessions × (s.block ≢ block)
none_last block [] s none = (tt, none.0)
none_last block (x ∷ xs) s none = let rest = none_last block xs s none.1 in ((none.0, rest.0), rest.1)

module _ (layout : Layout) (pool : Blocks) where
  -- a session at a place has a block that is out and laid out
  pub have_at : (sessions : List Open) (place : ℕ) (s : Open) → HaveBlocks layout pool sessions
      → slice_get sessions place ≡ Some s → IsOut pool s.block × IsLaidOut layout (block_words pool s.block)
  have_at [] place s have at = absurd (none-some s at)
  have_at (x ∷ xs) zero s have at = subst (λ (o : Open). IsOut pool o.block × IsLaidOut layout (block_words pool o.block)) (same_Some x s at) (have.0, have.1)
  have_at (x ∷ xs) (suc place) s have at = have_at xs place s have.3 at

  pub have_insert : (sessions : List Open) (place : ℕ) (s : Open) → IsOut pool s.block
      → IsLaidOut layout (block_words pool s.block) → HasNone s.block sessions → HaveBlocks layout pool sessions
      → HaveBlocks layout pool (insert sessions place s)
  have_insert sessions zero s out laid none have = grind arith
  have_insert [] (suc place) s out laid none have = (out, laid, tt, tt)
  have_insert (x ∷ xs) (suc place) s out laid none have = grind (arith, none_insert, have_insert xs place s out laid none.1 have.3)

  -- ---- a block is given back

  have_given : (block : ℕ) (sessions : List Open) → HasNone block sessions → HaveBlocks layout pool sessions
      → HaveBlocks layout (given pool block) sessions
  have_given block [] none have = tt
  have_given block (x ∷ xs) none have = grind (arith, given-stays_out, have_given block xs none.1 have.3)

  pub given_at : (sessions : List Open) (place : ℕ) (s : Open) → HaveBlocks layout pool sessions
      → slice_get sessions place ≡ Some s → HaveBlocks layout (given pool s.block) (remove sessions place)
  given_at [] place s have at = absurd (none-some s at)
  given_at (x ∷ xs) zero s have at = grind (arith, have_given)
  given_at (x ∷ xs) (suc place) s have at = grind (arith, none_at, given-stays_out, none_remove, given_at xs place s have.3 at)

  -- the last session's block is out, and is given back
  pub out_last : (sessions : List Open) (s : Open) → HaveBlocks layout pool (sessions ++ s ∷ []) → IsOut pool s.block
  out_last [] s have = have.0
  out_last (x ∷ xs) s have = out_last xs s have.3

  pub given_last : (sessions : List Open) (s : Open) → HaveBlocks layout pool (sessions ++ s ∷ [])
      → HaveBlocks layout (given pool s.block) sessions
  given_last [] s have = tt
  given_last (x ∷ xs) s have = grind (arith, none_last x.block xs s have.2, given-stays_out, given_last xs s have.3)

  module _ (sound : IsSound pool) where
    -- ---- a block is written

    module _ (block : ℕ) (new : List ℕ) (out : IsOut pool block) (long : length new ≡ pool.size) where
      others_written : (sessions : List Open) → HasNone block sessions → HaveBlocks layout pool sessions
          → table_of layout (with_block pool block new) sessions ≡ table_of layout pool sessions
      others_written [] none have = refl
      others_written (x ∷ xs) none have = grind (arith, written-others, others_written xs none.1 have.3)

      others_have : (sessions : List Open) → HasNone block sessions → HaveBlocks layout pool sessions
          → HaveBlocks layout (with_block pool block new) sessions
      others_have [] none have = tt
      others_have (x ∷ xs) none have = grind (arith, written-others, others_have xs none.1 have.3)

    -- the table has another entry at the session's place
    pub written_at : (sessions : List Open) (place : ℕ) (s : Open) (new : List ℕ) → HaveBlocks layout pool sessions
        → slice_get sessions place ≡ Some s → length new ≡ pool.size
        → table_of layout (with_block pool s.block new) sessions ≡ set (table_of layout pool sessions) place (s.name, entry_in layout new)
    written_at [] place s new have at long = absurd (none-some s at)
    written_at (x ∷ xs) zero s new have at long = grind (arith, written-block, others_written)
    written_at (x ∷ xs) (suc place) s new have at long =
        let out = have_at xs place s have.3 at in
        let other : x.block ≢ s.block = (λ e. none_at x.block xs place s have.2 at (sym e)) in
        grind (arith, written-others, written_at xs place s new have.3 at long)

    pub have_written : (sessions : List Open) (place : ℕ) (s : Open) (new : List ℕ) → HaveBlocks layout pool sessions
        → slice_get sessions place ≡ Some s → length new ≡ pool.size → IsLaidOut layout new
        → HaveBlocks layout (with_block pool s.block new) sessions
    have_written [] place s new have at long laid = absurd (none-some s at)
    have_written (x ∷ xs) zero s new have at long laid = grind (arith, written-block, others_have)
    have_written (x ∷ xs) (suc place) s new have at long laid = grind (arith, have_at, none_at, written-others, have_written xs place s new have.3 at long laid)

    -- ---- a block is handed out

    module _ (block : ℕ) (free : IsFree pool block) where
      -- the block is none of those that are out
      differs : (other : ℕ) → IsOut pool other → other ≢ block
      differs other out e = grind (arith, get_or_default)

      pub none_taken : (sessions : List Open) → HaveBlocks layout pool sessions → HasNone block sessions
      none_taken [] have = tt
      none_taken (x ∷ xs) have = (differs x.block have.0, none_taken xs have.3)

      pub table_taken : (sessions : List Open) → HaveBlocks layout pool sessions
          → table_of layout (taken pool block) sessions ≡ table_of layout pool sessions
      table_taken [] have = refl
      table_taken (x ∷ xs) have = grind (arith, taken-others, table_taken xs have.3)

      pub have_taken : (sessions : List Open) → HaveBlocks layout pool sessions → HaveBlocks layout (taken pool block) sessions
      have_taken [] have = tt
      have_taken (x ∷ xs) have = grind (arith, taken-stays_out, taken-others, have_taken xs have.3)
