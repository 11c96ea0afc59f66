use Rattle.session_core.specs.inner.Desks.{on_desk}
use Rattle.session_core.specs.Services.{shown_by}
use Rattle.std.proofs.Common.{◌≡◌, ◌∙◌, ◌∷◌, [], Bool, true, false, None, length, subst, refl, ap, sym, codes}
use Rattle.std.specs.Prelude.{nat_le, if◌then◌else◌}
use Rattle.text_rules.specs.Names.{Name}
use Rattle.state_rules.specs.Cases.{empty_case}
use Rattle.script_lang.specs.Script.{Start}
use Rattle.session_rules.specs.declared.refusal.Refusal.TheVariants.{Full}
use Rattle.session_rules.specs.Sessions.{declined, becomes, outcome, entry_of, with_entry}
use Rattle.session_rules.specs.Items.{line}
use Rattle.session_rules.proofs.Spellings.{replies_one}
use Rattle.session_core.specs.Services.{Shown, outcome_of}
use Rattle.session_core.specs.inner.Obeying.{Obeys}
use Rattle.session_core.proofs.OneMove.{obeys_one, obeys_refusal}
use Rattle.session_core.specs.inner.Holding.{shown_of}
use Rattle.session_core.proofs.ShownService.{opened_with}
use Rattle.session_core.proofs.sessions.Sessions.start.Goals as goal

-- opening a session that is not open
opened : (shown : Shown) (s : Name) (full : Bool) → entry_of s shown.table ≡ None → full ≡ nat_le shown.limit (length shown.table)
    → outcome_of shown s Start ≡ (if full then declined s Full else becomes s (empty_case (length shown.system.wires) (length shown.system.parts)) None (codes "open"))
opened shown s full none e = (λ i. outcome shown.system s (sym e i) (none i) Start)

pub returns-then-is_full-clause-obeys : goal.returns-then-is_full-clause-obeys
returns-then-is_full-clause-obeys g c =
    let shown = shown_of (on_desk g.E.Engine.about c.self.inside.desk).system c.self.inside.open in
    let s = c.args.name.now in
    let none = subst (λ (v : Shown). entry_of s v.table ≡ None) (sym (ap (shown_by g.E.Engine.about) c.self.view_is)) c.requires.closed in
    subst (λ (v : Shown). Obeys v v s Start (g.O.Sink.got c.args.out.now) (g.O.Sink.got c.put_refusal.new.out) c.put_refusal.result) (ap (shown_by g.E.Engine.about) c.self.view_is)
    (obeys_refusal shown s Start _ _ _ Full (opened shown s true none c.if-is_full.ensures) c.put_refusal.ensures.text)

pub returns-clause-obeys : goal.returns-clause-obeys
returns-clause-obeys g c =
    let system = (on_desk g.E.Engine.about c.self.inside.desk).system in
    let sessions = c.self.inside.open in
    let shown = shown_of system sessions in
    let s = c.args.name.now in
    let none = subst (λ (v : Shown). entry_of s v.table ≡ None) (sym (ap (shown_by g.E.Engine.about) c.self.view_is)) c.requires.closed in
    let fresh = c.start.ensures ∙ (λ i. opened_with sessions (with_entry s (record { known = empty_case (c.self.invariant.wires i) (c.self.invariant.parts i); point = None }) sessions.table)) in
    subst (λ (v : Shown). Obeys v (shown_of system c.start.new.self) s Start (g.O.Sink.got c.args.out.now) (g.O.Sink.got c.put_line.new.out) c.put_line.result) (ap (shown_by g.E.Engine.about) c.self.view_is)
    (obeys_one shown (shown_of system c.start.new.self) s Start _ _ _ _ (opened shown s false none c.if-is_full.ensures) (ap (shown_of system) fresh)
    (replies_one _ _ _ (line (s ∷ codes "open" ∷ [])) _ refl c.put_line.ensures.bytes))
