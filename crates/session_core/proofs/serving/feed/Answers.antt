use Rattle.session_core.specs.Services.{shown_by}
use Rattle.std.proofs.Common.{◌∙◌, ◌∷◌, [], ℕ, List, subst, get_or}
use Rattle.session_rules.specs.Sessions.{Table, Step}
use Rattle.session_rules.specs.Moves.{script_moves}
use Rattle.session_rules.specs.Carrying.{BreaksOff}
use Rattle.session_core.specs.inner.Gathering.{Fed, ended_from}
use Rattle.session_core.proofs.Lines.{moves_are_cut}
use Rattle.session_core.proofs.FedBytes.{fed_step, breaks_step}
use Rattle.session_core.proofs.KeptParts.{stays_more, moves_stay}
use Rattle.session_core.proofs.serving.feed.Goals as goal

pub returns-in_err-take_byte-clause-err : goal.returns-in_err-take_byte-clause-err
returns-in_err-take_byte-clause-err g c =
    let got = g.O.Sink.got in
    breaks_step _ _ _ (moves_are_cut (shown_by g.E.Engine.about c.args.sessions.now)) c.loop-byte-test.true c.loop-byte.invariant.fed
    (subst (λ (one : Table → List ℕ → List Step). BreaksOff (shown_by g.E.Engine.about c.take_byte.new.sessions).table (script_moves one (shown_by g.E.Engine.about c.loop-byte.sessions).table (ended_from c.loop-byte.gathered (get_or c.args.piece.now c.loop-byte.byte-index 0 ∷ []))) (got c.loop-byte.out) (got c.take_byte.new.out))
    (moves_stay (shown_by g.E.Engine.about c.args.sessions.now) (shown_by g.E.Engine.about c.loop-byte.sessions) c.loop-byte.invariant.stays) c.in_err-take_byte.ensures.err)

pub loop-byte-preserved : goal.loop-byte-preserved
loop-byte-preserved g c =
    let got = g.O.Sink.got in
    record {
      fed = fed_step _ _ (moves_are_cut (shown_by g.E.Engine.about c.args.sessions.now)) c.loop-byte-test.true c.loop-byte.invariant.fed
          (subst (λ (one : Table → List ℕ → List Step). Fed one (shown_by g.E.Engine.about c.loop-byte.sessions).table (shown_by g.E.Engine.about c.take_byte.new.sessions).table c.loop-byte.gathered c.take_byte.new.gathered (get_or c.args.piece.now c.loop-byte.byte-index 0 ∷ []) (got c.loop-byte.out) (got c.take_byte.new.out))
          (moves_stay (shown_by g.E.Engine.about c.args.sessions.now) (shown_by g.E.Engine.about c.loop-byte.sessions) c.loop-byte.invariant.stays) c.in_ok-take_byte.ensures.ok);
      stays = stays_more (shown_by g.E.Engine.about c.args.sessions.now) (shown_by g.E.Engine.about c.loop-byte.sessions) (shown_by g.E.Engine.about c.take_byte.new.sessions) c.loop-byte.invariant.stays c.in_ok-take_byte.ensures.stays;
      cause = c.in_ok-take_byte.ensures.cause.stayed ∙ c.loop-byte.invariant.cause;
    }
