-- Every reply over a graph has a text, so if a script broke off, what was written begins its replies.
use Rattle.std.proofs.Common.{ℕ, List, [], ◌∷◌, ◌++◌, Option, refl, arith}
use Rattle.session_rules.specs.Items.{Item, Plain, Projected, LeastText, Whole}
use Rattle.session_rules.specs.Sessions.{Table, said, replies}
use Rattle.session_rules.specs.Moves.{line_moves, script_moves}
use Rattle.session_rules.specs.Spelling.{Spells, WritesPart}
use Rattle.session_rules.specs.Carrying.{BreaksOff}
use Rattle.state_rules.specs.Systems.{System}
use Rattle.engines.specs.Offered.{IsOffered}
use Rattle.session_rules.specs.CaseSizes.{HasCasesOf}
use Rattle.session_rules.proofs.Begun.{HaveSpellings}
use Rattle.session_rules.proofs.Broken.{breaks_before, script_moves-append, broken_replies, said-replies}
use Rattle.session_core.specs.Services.{Shown, open_system, moves_of}
use Rattle.session_core.proofs.OneText.{ArePlain, script-plain}
use Rattle.session_core.proofs.WrittenReplies.{same_said, script_exact}

-- some text spells items that are texts
plain_spelled : (items : List Item) → ArePlain items → (text : List ℕ) × Spells items text
plain_spelled [] h = ([], refl)
plain_spelled (Plain bytes ∷ items) h = let more = plain_spelled items h in (bytes ++ more.0, (bytes, more.0, refl, refl, more.1))
plain_spelled (Projected parts states ∷ items) h = absurd h
plain_spelled (LeastText parts states ∷ items) h = absurd h
plain_spelled (Whole device vars most ∷ items) h = absurd h

-- items that a text spells have a spelling each
each_spelled : (items : List Item) (text : List ℕ) → Spells items text → HaveSpellings items
each_spelled [] text is = tt
each_spelled (item ∷ items) text (front, rest, all, one, more) = ((front, one), each_spelled items rest more)

module _ (system : System) (offered : IsOffered system) where
  -- each reply to a script has a text: the one a service writes
  pub replies-have : (limit : ℕ) (table : Table) (lines : List (List ℕ)) → HasCasesOf (open_system system) table → HaveSpellings (replies (open_system system) limit table lines)
  replies-have limit table lines h =
      let shown : Shown = record { system = system; limit = limit; table = table } in
      let written = script_moves (moves_of shown) table lines in
      let over = script_moves (line_moves (open_system system) limit) table lines in
      let text = plain_spelled (said written) (script-plain shown offered table lines) in
      grind (arith, said-replies (open_system system) limit table lines, each_spelled (said over) text.0 (same_said written over (script_exact shown offered.texts table lines h) text.0 text.1))

  -- If it broke off, what was written begins its replies, also before more lines.
  pub broken_begins_more : (limit : ℕ) (old new : Table) (lines more : List (List ℕ)) (a b : Option (List ℕ)) → HasCasesOf (open_system system) old
      → BreaksOff new (script_moves (line_moves (open_system system) limit) old lines) a b → WritesPart a b (replies (open_system system) limit old (lines ++ more))
  broken_begins_more limit old new lines more a b h broke = grind (arith, broken_replies (open_system system) limit old new (lines ++ more) a b, script_moves-append (line_moves (open_system system) limit) old lines more, breaks_before, replies-have limit old (lines ++ more) h)
