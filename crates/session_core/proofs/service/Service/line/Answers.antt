use Rattle.std.proofs.Common.{◌≡◌, subst}
use Rattle.script_lang.specs.Script.{line_of}
use Rattle.session_core.specs.Services.{Held, IsRefused, shown_by}
use Rattle.session_core.proofs.RefusedLines.{refused_stays}
use Rattle.session_core.proofs.service.Service.line.Goals as goal

pub returns-clause-refused : goal.returns-clause-refused
returns-clause-refused g c =
    let about = g.E.Engine.about in
    subst (λ (h : Held _). IsRefused (shown_by about h) (line_of c.args.line.now) → shown_by about c.line.new.self ≡ shown_by about h) c.self.view_is
    (λ is. refused_stays (shown_by about c.self.inside.sessions) (shown_by about c.line.new.self) c.args.line.now _ _ c.line.result c.line.ensures.stays c.line.ensures.carried is)
