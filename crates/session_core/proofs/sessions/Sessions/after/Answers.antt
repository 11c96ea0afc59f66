use Rattle.session_core.specs.inner.Desks.{on_desk}
use Rattle.session_core.specs.Services.{shown_by}
use Rattle.std.proofs.Common.{◌≡◌, ◌∙◌, List, Bool, Some, codes, true, false, refl, ap, sym, arith}
use Rattle.std.specs.List.{list_all}
use Rattle.text_rules.specs.Names.{is_among}
use Rattle.text_rules.specs.Tokens.{words}
use Rattle.conditioner.specs.Evidence.{bits_of}
use Rattle.script_lang.specs.Script.{After}
use Rattle.session_rules.specs.declared.refusal.Refusal.TheVariants.{NoPart}
use Rattle.session_rules.specs.Sessions.{Becomes, with_entry}
use Rattle.session_core.specs.inner.Desks.{OnDesk, state_of}
use Rattle.session_core.proofs.ShownService.{opened_with, there, open_word, open_refused}
use Rattle.session_core.proofs.sessions.Sessions.after.Goals as goal

pub returns-then-not-mark-clause-obeys : goal.returns-then-not-mark-clause-obeys
returns-then-not-mark-clause-obeys g c =
    let system = (on_desk g.E.Engine.about c.self.inside.desk).system in
    let s = c.args.session.name.now in
    let here = there system c.self.inside.open (shown_by g.E.Engine.about c.args.self.now) (ap (shown_by g.E.Engine.about) c.self.view_is) c.args.session c.requires in
    let off : list_all (is_among system.parts) (words c.args.names.now) ≡ false = sym c.if-not-mark.ensures.named in
    open_refused system c.self.inside.open (shown_by g.E.Engine.about c.args.self.now) (ap (shown_by g.E.Engine.about) c.self.view_is) c.args.session c.requires (After (words c.args.names.now)) NoPart _ _ _ _
    (grind arith)
    (ap (λ (d : OnDesk). d.system) c.mark.ensures.stays) c.put_refusal.ensures.text

pub returns-clause-obeys : goal.returns-clause-obeys
returns-clause-obeys g c =
    let system = (on_desk g.E.Engine.about c.self.inside.desk).system in
    let opened = c.self.inside.open in
    let s = c.args.session.name.now in
    let here = there system opened (shown_by g.E.Engine.about c.args.self.now) (ap (shown_by g.E.Engine.about) c.self.view_is) c.args.session c.requires in
    let on : list_all (is_among system.parts) (words c.args.names.now) ≡ true = sym c.if-not-mark.ensures.named in
    let is = ap bits_of c.state.ensures.state ∙ c.if-not-mark.ensures.state refl in
    open_word system opened (shown_by g.E.Engine.about c.args.self.now) (ap (shown_by g.E.Engine.about) c.self.view_is) c.args.session c.requires (After (words c.args.names.now)) (Becomes (record here.entry { point = Some (state_of (words c.args.names.now) system.parts) })) (codes "ok") _ _ _ _ _
    (grind arith)
    (ap (λ (d : OnDesk). d.system) c.mark.ensures.stays)
    (c.set_point.ensures.point s here.entry here.stands ∙ ap (λ (h : List Bool). opened_with opened (with_entry s (record here.entry { point = Some h }) opened.table)) is)
    c.put_line.ensures.bytes
