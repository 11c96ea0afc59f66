use Rattle.std.proofs.Common.{[], ◌≡◌, refl, subst}
use Rattle.std.specs.Prelude.{IfOk}
use Rattle.device_files.specs.Refusals.{refusal_output}
use Rattle.session_core.specs.Services.{shown_by}
use Rattle.diag_cli.specs.inner.Serving.{IsFor}
use Rattle.diag_cli.proofs.ShownEnds.{gives_shown}
use Rattle.diag_cli.proofs.Headline.{follows_refusal, follows_serves}
use Rattle.diag_cli.proofs.serving.answer_by.Goals as goal

pub answer-status-requires-clause-none_open : goal.answer-status-requires-clause-none_open
answer-status-requires-clause-none_open g c = subst (λ made. IfOk made (λ service. service.table ≡ [])) c.in-Ok.is c.requires.none_open

pub returns-in-Ok-clause-follows : goal.returns-in-Ok-clause-follows
returns-in-Ok-clause-follows g c = λ behaviour is.
    follows_serves _ _ _ _ _ behaviour _ (subst (IsFor (shown_by g.E.Engine.about) behaviour) c.in-Ok.is is) c.answer-status.ensures.served

pub returns-in-Err-clause-follows : goal.returns-in-Err-clause-follows
returns-in-Err-clause-follows g c = λ behaviour is.
    follows_refusal _ _ _ _ _ behaviour (refusal_output c.in-Err.refusal) (subst (IsFor (shown_by g.E.Engine.about) behaviour) c.in-Err.is is) (record { left = refl; taken = refl; faults = refl })
    (gives_shown (g.O.Sink.shown_is _) (g.O.Sink.shown_is _) c.tell.ensures.said)
