use Rattle.session_core.specs.inner.Desks.{on_desk}
use Rattle.session_core.specs.Services.{shown_by}
use Rattle.std.proofs.Common.{ap, refl, codes}
use Rattle.script_lang.specs.Script.{Stop}
use Rattle.session_rules.specs.Sessions.{Ends}
use Rattle.session_core.proofs.ShownService.{there, open_word}
use Rattle.session_core.proofs.sessions.Sessions.stop.Goals as goal

pub returns-clause-obeys : goal.returns-clause-obeys
returns-clause-obeys g c =
    let here = there (on_desk g.E.Engine.about c.self.inside.desk).system c.self.inside.open (shown_by g.E.Engine.about c.args.self.now) (ap (shown_by g.E.Engine.about) c.self.view_is) c.args.session c.requires in
    open_word (on_desk g.E.Engine.about c.self.inside.desk).system c.self.inside.open (shown_by g.E.Engine.about c.args.self.now) (ap (shown_by g.E.Engine.about) c.self.view_is) c.args.session c.requires Stop Ends (codes "closed") _ _ _ _ _ refl refl
    (c.stop.ensures c.args.session.name.now here.entry here.stands) c.put_line.ensures.bytes
