use Rattle.session_core.specs.Services.{shown_by}
use Rattle.std.proofs.Common.{arith}
use Rattle.script_lang.specs.Script.{asked}
use Rattle.session_rules.specs.declared.refusal.Refusal.TheVariants.{OpenAlready}
use Rattle.session_core.proofs.OneMove.{obeys_refusal}
use Rattle.session_core.proofs.sessions.Sessions.ask_open.Goals as goal

pub returns-in-Start-clause-obeys : goal.returns-in-Start-clause-obeys
returns-in-Start-clause-obeys g c =
    let old = (shown_by g.E.Engine.about c.args.self.now) in
    let s = c.args.session.name.now in
    let there = c.requires in
    obeys_refusal old s (asked c.args.request) _ _ _ OpenAlready
    (grind arith)
    c.put_refusal.ensures.text
