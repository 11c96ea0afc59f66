use Rattle.session_core.specs.Services.{shown_by}
use Rattle.std.proofs.Common.{ap, ◌≡◌, None, subst}
use Rattle.script_lang.specs.Script.{asked}
use Rattle.session_rules.specs.declared.refusal.Refusal.TheVariants.{NoSession}
use Rattle.session_rules.specs.Sessions.{entry_of}
use Rattle.session_core.specs.Services.{Shown}
use Rattle.session_core.proofs.OneMove.{obeys_refusal, unopened}
use Rattle.session_core.proofs.sessions.Sessions.ask.Goals as goal

pub returns-in_default-clause-obeys : goal.returns-in_default-clause-obeys
returns-in_default-clause-obeys g c =
    let old = (shown_by g.E.Engine.about c.args.self.now) in
    let s = c.args.name.now in
    let none = subst (λ (v : Shown). entry_of s v.table ≡ None) (ap (shown_by g.E.Engine.about) c.self.view_is) c.in-None.ensures.none in
    obeys_refusal old s (asked c.args.request) _ _ _ NoSession (unopened old s c.args.request c.in_default.not-Start none) c.put_refusal.ensures.text
