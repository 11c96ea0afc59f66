use Rattle.std.proofs.Common.{◌∙◌, ap, subst}
use Rattle.session_core.specs.Services.{IsSound, shown_by}
use Rattle.session_core.proofs.service.Service.parts.Goals as goal

pub returns-clause-sound : goal.returns-clause-sound
returns-clause-sound g c =
    let holds = c.self-inside.invariant in
    subst IsSound (ap (λ s. shown_by g.E.Engine.about s.sessions) c.self-inside.view_is ∙ ap (shown_by g.E.Engine.about) c.self.view_is) (record {
      offered = holds.offered;
      cases = λ session entry found.
          let fit = c.parts.ensures.cases session entry found in (fit.0 ∙ holds.wires, fit.1 ∙ holds.parts);
    })
