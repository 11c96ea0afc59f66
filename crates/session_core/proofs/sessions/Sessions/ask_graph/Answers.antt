use Rattle.std.proofs.Common.{false, sym, Bool}
use Rattle.std.specs.Prelude.{if◌then◌else◌}
use Rattle.session_rules.specs.declared.refusal.Refusal.TheVariants.{NoGraph}
use Rattle.session_rules.specs.Sessions.{declined}
use Rattle.session_core.specs.Services.{Shown}
use Rattle.session_core.specs.inner.Obeying.{Obeys}
use Rattle.session_core.specs.inner.Holding.{shown_of}
use Rattle.session_core.proofs.OneMove.{obeys_refusal, asked_open}
use Rattle.session_core.specs.inner.Desks.{on_desk}
use Rattle.session_core.specs.Services.{shown_by}
use Rattle.std.proofs.Common.{◌≡◌, ◌∙◌, ◌∷◌, [], ℕ, true, List, Option, Some, None, codes, refl, ap, subst, arith}
use Rattle.std.specs.Prelude.{is_some}
use Rattle.text_rules.specs.Names.{Name}
use Rattle.state_rules.specs.Cases.{Case}
use Rattle.state_rules.specs.Systems.{System}
use Rattle.script_lang.specs.Script.{Dnnf}
use Rattle.session_rules.specs.Items.{Item, Plain, line}
use Rattle.session_rules.specs.Sessions.{Entry, tells, when_open}
use Rattle.session_rules.specs.Spelling.{Replies}
use Rattle.engines.specs.Offered.{states_text}
use Rattle.session_core.specs.inner.Desks.{OnDesk}
use Rattle.session_core.proofs.ShownService.{case-there, there, open_one}
use Rattle.session_core.proofs.sessions.Sessions.ask_graph.Goals as goal

-- the answer about a case
abbrev items : System → List ℕ → Case → List Item
items system session known = line (session ∷ codes "dnnf" ∷ []) ∷ Plain (states_text system known) ∷ []

told_by : (system : System) (s : Name) (entry : Entry) (offered : Bool) (text : Option (Case → List ℕ)) → system.graphs ≡ offered
    → system.texts.dnnf ≡ text → (system.graphs ≡ true → is_some text ≡ true)
    → when_open system s entry Dnnf ≡ (if offered then tells (items system s entry.known) else declined s NoGraph)
told_by system s entry true (Some text) is by some = grind arith
told_by system s entry true None is by some = absurd (let never : ⊥ = grind arith in never)
told_by system s entry false text is by some = grind arith

pub returns-then-not-draws-clause-obeys : goal.returns-then-not-draws-clause-obeys
returns-then-not-draws-clause-obeys g c =
    let system = (on_desk g.E.Engine.about c.self.inside.desk).system in
    let shown = shown_of system c.self.inside.open in
    let s = c.args.session.name.now in
    let here = there system c.self.inside.open (shown_by g.E.Engine.about c.args.self.now) (ap (shown_by g.E.Engine.about) c.self.view_is) c.args.session c.requires in
    subst (λ (v : Shown). Obeys v v s Dnnf (g.O.Sink.got c.args.out.now) (g.O.Sink.got c.put_refusal.new.out) c.put_refusal.result) (ap (shown_by g.E.Engine.about) c.self.view_is)
    (obeys_refusal shown s Dnnf _ _ _ NoGraph (asked_open shown s Dnnf here.entry here.stands.found
    ∙ told_by system s here.entry false system.texts.dnnf (sym c.if-not-draws.ensures) refl c.self.invariant.offered.has_dnnf) c.put_refusal.ensures.text)

pub returns-clause-obeys : goal.returns-clause-obeys
returns-clause-obeys g c =
    let desk = (on_desk g.E.Engine.about c.self.inside.desk) in
    let s = c.args.session.name.now in
    let here = there desk.system c.self.inside.open (shown_by g.E.Engine.about c.args.self.now) (ap (shown_by g.E.Engine.about) c.self.view_is) c.args.session c.requires in
    let known = case-there desk.system c.self.inside.open c.self.invariant c.evidence.result.now here.entry.known (c.evidence.ensures.known s here.entry here.stands) in
    open_one desk.system c.self.inside.open (shown_by g.E.Engine.about c.args.self.now) (ap (shown_by g.E.Engine.about) c.self.view_is) c.args.session c.requires Dnnf _ _ _ _ _ _ (told_by desk.system s here.entry true desk.system.texts.dnnf (sym c.if-not-draws.ensures) refl c.self.invariant.offered.has_dnnf)
    (ap (λ (d : OnDesk). d.system) (c.tell_graph.ensures.same ∙ c.take_up.ensures)) refl
    (subst (λ (k : Case). Replies (g.O.Sink.got c.args.out.now) (g.O.Sink.got c.tell_graph.new.out) c.tell_graph.result (items desk.system s k)) known
    (subst (λ (d : OnDesk). Replies (g.O.Sink.got c.args.out.now) (g.O.Sink.got c.tell_graph.new.out) c.tell_graph.result (items d.system s d.known)) c.take_up.ensures c.tell_graph.ensures.reply))
