use Rattle.session_core.specs.inner.Desks.{on_desk}
use Rattle.session_core.specs.Services.{shown_by}
use Rattle.std.proofs.Common.{◌∙◌, ap, refl, arith}
use Rattle.script_lang.specs.Script.{question_of, Tell}
use Rattle.session_core.specs.inner.Desks.{OnDesk}
use Rattle.session_core.proofs.ShownService.{case-there, there, open_one}
use Rattle.session_core.proofs.sessions.Sessions.ask_case.Goals as goal

pub returns-clause-obeys : goal.returns-clause-obeys
returns-clause-obeys g c =
    let desk = (on_desk g.E.Engine.about c.self.inside.desk) in
    let opened = c.self.inside.open in
    let s = c.args.session.name.now in
    let q = question_of c.args.question in
    let here = there desk.system opened (shown_by g.E.Engine.about c.args.self.now) (ap (shown_by g.E.Engine.about) c.self.view_is) c.args.session c.requires in
    let known = case-there desk.system opened c.self.invariant c.evidence.result.now here.entry.known (c.evidence.ensures.known s here.entry here.stands) in
    open_one desk.system opened (shown_by g.E.Engine.about c.args.self.now) (ap (shown_by g.E.Engine.about) c.self.view_is) c.args.session c.requires (Tell q) _ _ _ _ _ _ refl
    (c.tell.ensures.system ∙ ap (λ (d : OnDesk). d.system) c.take_up.ensures) refl
    (grind arith)
