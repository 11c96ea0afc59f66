-- The case of each open session has a place for each wire and each part.
use Rattle.std.proofs.Common.{◌≡◌, ℕ, List, [], ◌∷◌, Some, arith}
use Rattle.text_rules.specs.Names.{Name}
use Rattle.scratch_pool.specs.Pools.{Blocks}
use Rattle.session_rules.specs.Sessions.{Entry, entry_of}
use Rattle.session_rules.proofs.CaseEvidence.{length-held, length-seen}
use Rattle.session_table.specs.Tables.{Fits}
use Rattle.session_table.specs.inner.Blocks.{entry_in, IsLaidOut}
use Rattle.session_table.specs.inner.Ordered.{table_of, HaveBlocks}
use Rattle.session_table.specs.declared.block.Layout.{Layout}
use Rattle.session_table.specs.declared.in_order.Open.{Open}

module _ (layout : Layout) (pool : Blocks) where
  laid_fits : (block : List ℕ) → IsLaidOut layout block → Fits layout.parts layout.wires (entry_in layout block)
  laid_fits block laid = grind (arith, length-seen, length-held)

  pub all_fit : (sessions : List Open) → HaveBlocks layout pool sessions → (session : Name) (entry : Entry) → entry_of session (table_of layout pool sessions) ≡ Some entry
      → Fits layout.parts layout.wires entry
  all_fit [] blocks name entry e = absurd (let never : ⊥ = cc in never)
  all_fit (session ∷ sessions) blocks name entry e = grind (arith, laid_fits, all_fit sessions blocks.3 name entry)
