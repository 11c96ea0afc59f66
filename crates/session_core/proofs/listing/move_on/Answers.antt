use Rattle.session_core.specs.inner.Desks.{on_desk}
use Rattle.std.proofs.Common.{◌∷◌, [], Ok, ℕ, List, ap₂, refl, subst, arith}
use Rattle.text_rules.specs.Names.{Name}
use Rattle.conditioner.specs.Evidence.{bits_of}
use Rattle.session_rules.specs.Items.{line}
use Rattle.session_rules.specs.Spelling.{Writes, WritesPart}
use Rattle.session_core.specs.inner.Holding.{shown_of}
use Rattle.session_core.specs.inner.Texts.{next_text}
use Rattle.session_core.proofs.Told.{writes_one, part_one}
use Rattle.session_core.proofs.SessionMoves.{replies_part, if_failed, moves_on}
use Rattle.session_core.proofs.listing.move_on.Goals as goal

pub returns-in_err-put_next-clause-moves : goal.returns-in_err-put_next-clause-moves
returns-in_err-put_next-clause-moves g c = λ entry stands.
    let old = (on_desk g.E.Engine.about c.args.desk.now).system in
    let s = c.args.session.name.now in
    let next = c.find-next.result in
    let state = bits_of (on_desk g.E.Engine.about c.find-next.new.desk).state in
    let words = ap₂ (λ (parts : List Name) (st : List ℕ). next_text s parts next (bits_of st)) (grind arith) c.state.ensures.state in
    moves_on (shown_of old c.args.opened.now) (shown_of (on_desk g.E.Engine.about c.find-next.new.desk).system c.find-next.new.opened) c.args.listed c.args.session.place s entry next state _ _ c.from_residual.result
    (c.find-next.ensures.moves s entry stands) (ap₂ shown_of c.find-next.ensures.system c.find-next.ensures.stays)
    (replies_part _ _ _ (line (next_text s old.parts next state) ∷ []) c.from_residual.ensures.0
    (subst (λ (ws : List (List ℕ)). WritesPart (g.O.Sink.got c.args.out.now) (g.O.Sink.got c.put_next.new.out) (line ws ∷ [])) words
    (part_one _ _ (line (next_text s c.parts.result.now next (bits_of c.state.result.now))) _ refl c.in_err-put_next.ensures.text)))
    (if_failed _ _ c.from_residual.ensures.0)

pub returns-clause-moves : goal.returns-clause-moves
returns-clause-moves g c = λ entry stands.
    let old = (on_desk g.E.Engine.about c.args.desk.now).system in
    let s = c.args.session.name.now in
    let next = c.find-next.result in
    let state = bits_of (on_desk g.E.Engine.about c.find-next.new.desk).state in
    let words = ap₂ (λ (parts : List Name) (st : List ℕ). next_text s parts next (bits_of st)) (grind arith) c.state.ensures.state in
    moves_on (shown_of old c.args.opened.now) (shown_of (on_desk g.E.Engine.about c.find-next.new.desk).system c.find-next.new.opened) c.args.listed c.args.session.place s entry next state _ _ (Ok c.is_found.result)
    (c.find-next.ensures.moves s entry stands) (ap₂ shown_of c.find-next.ensures.system c.find-next.ensures.stays)
    (subst (λ (ws : List (List ℕ)). Writes (g.O.Sink.got c.args.out.now) (g.O.Sink.got c.put_next.new.out) (line ws ∷ [])) words
    (writes_one _ _ (line (next_text s c.parts.result.now next (bits_of c.state.result.now))) _ refl c.in_ok-put_next.ensures.text))
    c.is_found.ensures
