use Rattle.session_core.specs.inner.Desks.{on_desk}
use Rattle.session_core.specs.Services.{shown_by}
use Rattle.std.proofs.Common.{◌≡◌, ◌∷◌, Bool, None, Option, subst, ◌∙◌, ap, refl, codes, arith}
use Rattle.device_model.specs.Devices.{place_of}
use Rattle.script_lang.specs.Script.{Note}
use Rattle.state_rules.specs.Systems.{System}
use Rattle.session_rules.specs.Sessions.{Becomes}
use Rattle.session_table.specs.Tables.{with_noted}
use Rattle.session_core.specs.inner.Desks.{names_of}
use Rattle.session_core.proofs.ShownService.{there, open_word}
use Rattle.text_rules.specs.Names.{Name}
use Rattle.text_rules.specs.Tokens.{spaced}
use Rattle.state_rules.specs.Systems.{System}
use Rattle.script_lang.specs.declared.line.Noted.{Noted}
use Rattle.script_lang.specs.declared.line.Noted.TheVariants.{Wire, Part}
use Rattle.session_rules.specs.declared.refusal.Refusal.{Refusal}
use Rattle.session_rules.specs.Refusals.{refusal_row, error_words}
use Rattle.session_rules.specs.Sessions.{Entry, when_open, declined}
use Rattle.diag_edge.specs.Edge.{Puts}
use Rattle.session_core.specs.Services.{Shown}
use Rattle.session_core.specs.inner.Holding.{shown_of}
use Rattle.session_core.proofs.OneMove.{obeys_refusal, asked_open}
use Rattle.session_core.specs.inner.Obeying.{Obeys, no_such}
use Rattle.session_core.proofs.sessions.Sessions.note.Goals as goal

unknown : (system : System) (s : Name) (entry : Entry) (what : Noted) (name : Name) (known : Option Bool) → None ≡ place_of name (names_of system what)
    → when_open system s entry (Note what name known) ≡ declined s (no_such what)
unknown system s entry Wire name known none = grind arith
unknown system s entry Part name known none = grind arith

pub returns-in-None-clause-obeys : goal.returns-in-None-clause-obeys
returns-in-None-clause-obeys g c =
    let system = (on_desk g.E.Engine.about c.self.inside.desk).system in
    let what = c.args.what in
    let s = c.args.session.name.now in
    let here = there system c.self.inside.open (shown_by g.E.Engine.about c.args.self.now) (ap (shown_by g.E.Engine.about) c.self.view_is) c.args.session c.requires in
    let shown = shown_of system c.self.inside.open in
    let request = Note what c.args.name.now c.args.known in
    subst (λ (v : Shown). Obeys v v s request (g.O.Sink.got c.args.out.now) (g.O.Sink.got c.put_refusal.new.out) c.put_refusal.result) (ap (shown_by g.E.Engine.about) c.self.view_is)
    (obeys_refusal shown s request _ _ _ (no_such what) (asked_open shown s request here.entry here.stands.found ∙ unknown system s here.entry what c.args.name.now c.args.known c.in-None.ensures)
    (subst (λ (r : Refusal). Puts (g.O.Sink.got c.args.out.now) (g.O.Sink.got c.put_refusal.new.out) c.put_refusal.result (spaced (s ∷ error_words (refusal_row r)))) c.no_such.ensures c.put_refusal.ensures.text))

pub returns-in-Some-clause-obeys : goal.returns-in-Some-clause-obeys
returns-in-Some-clause-obeys g c =
    let system = (on_desk g.E.Engine.about c.self.inside.desk).system in
    let what = c.args.what in
    let s = c.args.session.name.now in
    let here = there system c.self.inside.open (shown_by g.E.Engine.about c.args.self.now) (ap (shown_by g.E.Engine.about) c.self.view_is) c.args.session c.requires in
    let found = c.in-Some.ensures in
    open_word system c.self.inside.open (shown_by g.E.Engine.about c.args.self.now) (ap (shown_by g.E.Engine.about) c.self.view_is) c.args.session c.requires (Note what c.args.name.now c.args.known) (Becomes (with_noted here.entry what c.in-Some.at c.args.known)) (codes "ok") _ _ _ _ _
    (grind arith)
    refl (c.note.ensures s here.entry here.stands) c.put_line.ensures.bytes
