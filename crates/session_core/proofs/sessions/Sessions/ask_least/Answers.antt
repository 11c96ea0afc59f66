use Rattle.session_core.specs.inner.Desks.{on_desk}
use Rattle.session_core.specs.Services.{shown_by}
use Rattle.std.proofs.Common.{◌≡◌, ◌∙◌, ◌∷◌, [], ℕ, Bool, true, false, List, Option, Some, None, codes, refl, sym, ap, subst, arith}
use Rattle.std.specs.Prelude.{is_some, if◌then◌else◌}
use Rattle.text_rules.specs.Names.{Name}
use Rattle.state_rules.specs.Cases.{Case}
use Rattle.state_rules.specs.Systems.{System}
use Rattle.script_lang.specs.Script.{LeastNnf}
use Rattle.session_rules.specs.declared.refusal.Refusal.TheVariants.{NoLeast}
use Rattle.session_rules.specs.Items.{Item, Plain, line}
use Rattle.session_rules.specs.Sessions.{Entry, tells, declined, when_open}
use Rattle.session_rules.specs.Spelling.{Replies}
use Rattle.engines.specs.Offered.{diagnoses_text}
use Rattle.session_core.specs.Services.{Shown}
use Rattle.session_core.specs.inner.Desks.{OnDesk}
use Rattle.session_core.specs.inner.Obeying.{Obeys}
use Rattle.session_core.specs.inner.Holding.{shown_of}
use Rattle.session_core.proofs.ShownService.{case-there, there, open_one}
use Rattle.session_core.proofs.OneMove.{obeys_refusal, asked_open}
use Rattle.session_core.proofs.sessions.Sessions.ask_least.Goals as goal

-- the answer about a case
abbrev items : System → List ℕ → Case → List Item
items system session known = line (session ∷ codes "leastnnf" ∷ []) ∷ Plain (diagnoses_text system known) ∷ []

-- the answer, by whether the graph is offered
told : (system : System) (s : Name) (entry : Entry) (offered : Bool) (text : Option (Case → List ℕ)) → system.extras.least ≡ offered
    → system.texts.least ≡ text → (system.extras.least ≡ true → is_some text ≡ true)
    → when_open system s entry LeastNnf ≡ (if offered then tells (items system s entry.known) else declined s NoLeast)
told system s entry offered (Some text) is by some = grind arith
told system s entry true None is by some = absurd (let never : ⊥ = grind arith in never)
told system s entry false None is by some = grind arith

pub returns-then-not-tells_least-clause-obeys : goal.returns-then-not-tells_least-clause-obeys
returns-then-not-tells_least-clause-obeys g c =
    let system = (on_desk g.E.Engine.about c.self.inside.desk).system in
    let shown = shown_of system c.self.inside.open in
    let s = c.args.session.name.now in
    let here = there system c.self.inside.open (shown_by g.E.Engine.about c.args.self.now) (ap (shown_by g.E.Engine.about) c.self.view_is) c.args.session c.requires in
    subst (λ (v : Shown). Obeys v v s LeastNnf (g.O.Sink.got c.args.out.now) (g.O.Sink.got c.put_refusal.new.out) c.put_refusal.result) (ap (shown_by g.E.Engine.about) c.self.view_is)
    (obeys_refusal shown s LeastNnf _ _ _ NoLeast (asked_open shown s LeastNnf here.entry here.stands.found
    ∙ told system s here.entry false system.texts.least (sym c.if-not-tells_least.ensures) refl c.self.invariant.offered.has_least) c.put_refusal.ensures.text)

pub returns-clause-obeys : goal.returns-clause-obeys
returns-clause-obeys g c =
    let desk = (on_desk g.E.Engine.about c.self.inside.desk) in
    let s = c.args.session.name.now in
    let here = there desk.system c.self.inside.open (shown_by g.E.Engine.about c.args.self.now) (ap (shown_by g.E.Engine.about) c.self.view_is) c.args.session c.requires in
    let known = case-there desk.system c.self.inside.open c.self.invariant c.evidence.result.now here.entry.known (c.evidence.ensures.known s here.entry here.stands) in
    open_one desk.system c.self.inside.open (shown_by g.E.Engine.about c.args.self.now) (ap (shown_by g.E.Engine.about) c.self.view_is) c.args.session c.requires LeastNnf _ _ _ _ _ _
    (told desk.system s here.entry true desk.system.texts.least (sym c.if-not-tells_least.ensures) refl c.self.invariant.offered.has_least)
    (ap (λ (d : OnDesk). d.system) (c.tell_least.ensures.same ∙ c.take_up.ensures)) refl
    (subst (λ (k : Case). Replies (g.O.Sink.got c.args.out.now) (g.O.Sink.got c.tell_least.new.out) c.tell_least.result (items desk.system s k)) known
    (subst (λ (d : OnDesk). Replies (g.O.Sink.got c.args.out.now) (g.O.Sink.got c.tell_least.new.out) c.tell_least.result (items d.system s d.known)) c.take_up.ensures c.tell_least.ensures.reply))
