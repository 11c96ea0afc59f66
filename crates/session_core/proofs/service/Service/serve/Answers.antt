use Rattle.session_core.specs.Services.{shown_by}
use Rattle.std.proofs.Common.{arith, ◌≡◌, ◌∙◌, ◌++◌, ℕ, List, take, drop, inl, inr, subst, length-append, length-take}
use Rattle.std.proofs.lemmas.Grind.{common_steps}
use Rattle.session_core.specs.inner.Gathering.{Fed, ended_from}
use Rattle.session_rules.specs.Moves.{script_moves}
use Rattle.session_rules.specs.Sessions.{Table, Step}
use Rattle.session_rules.specs.Carrying.{Makes, BreaksOff}
use Rattle.text_rules.specs.TextLines.{last_line}
use Rattle.session_core.specs.Services.{moves_of}
use Rattle.diag_edge.proofs.GrownBytes.{consumes_more, consumes_end}
use Rattle.session_core.proofs.Lines.{moves_are_cut}
use Rattle.session_core.proofs.FedBytes.{makes_all, makes_whole, fails_at_end, fails_at_once, fed_more, consumes_kept}
use Rattle.session_core.proofs.KeptParts.{stays_more, moves_stay}
use Rattle.session_core.proofs.service.Service.serve.Goals as goal
use Rattle.session_core.proofs.service.Service.serve.Goals.{in-Ok-finish, in-Err-finish}

pub returns-clause-served : goal.returns-clause-served
returns-clause-served g c =
    let loop = c.loop-taken.invariant in (
      loop.so_far.0,
      omega (arith, loop.taken, loop.so_far.1),
      loop.so_far.2,
      (omega (arith, loop.so_far.1, loop.within, c.loop-taken-test.false), makes_whole loop.so_far.3),
    )

pub returns-in-Err-clause-served : goal.returns-in-Err-clause-served
returns-in-Err-clause-served g c =
    let loop = c.loop-taken.invariant in (
      loop.so_far.0,
      omega (arith, loop.taken, loop.so_far.1, c.in-Err.ensures.taken),
      consumes_kept _ _ _ _ loop.so_far.2 c.in-Err.ensures.bytes,
      (omega (arith, loop.so_far.1, c.loop-taken-test.true), makes_whole loop.so_far.3),
    )

pub returns-then-count-eq0-clause-served : goal.returns-then-count-eq0-clause-served
returns-then-count-eq0-clause-served g c =
    let loop = c.loop-taken.invariant in
    let same_moves = moves_stay (shown_by g.E.Engine.about c.args.self.now) (shown_by g.E.Engine.about c.loop-taken.self-inside.sessions) loop.stays in
    let at_end = c.in-Ok.ensures.bytes.1 c.if-count-eq0.true (grind (arith, common_steps)) in
    let got = g.O.Sink.got in (
      loop.so_far.0,
      omega (arith, c.in-Ok.ensures.taken, c.if-count-eq0.true, loop.taken, loop.so_far.1),
      consumes_end _ _ _ _ _ _ loop.so_far.2 c.if-count-eq0.true c.in-Ok.ensures.bytes.0,
      elim c.match-finish.branch [
        | in-Ok-finish w ↦ rw w.result-is (
          at_end,
          omega (arith, loop.so_far.1, c.loop-taken-test.true),
          makes_all (got c.finish.new.out) (moves_are_cut (shown_by g.E.Engine.about c.args.self.now)) loop.so_far.3
              (subst (λ (one : Table → List ℕ → List Step). Makes (shown_by g.E.Engine.about c.loop-taken.self-inside.sessions).table (shown_by g.E.Engine.about c.finish.new.sessions).table (script_moves one (shown_by g.E.Engine.about c.loop-taken.self-inside.sessions).table (last_line c.loop-taken.self-inside.gathered)) (got c.loop-taken.out) (got c.finish.new.out))
              same_moves w.in-Ok-finish.ensures.carried),
        )
        | in-Err-finish w ↦ rw w.result-is (
          omega (arith, loop.so_far.1, loop.within),
          inr (
            at_end,
            omega (arith, loop.so_far.1, c.loop-taken-test.true),
            fails_at_end {u = (shown_by g.E.Engine.about c.finish.new.sessions).table} {c = got c.finish.new.out} (moves_are_cut (shown_by g.E.Engine.about c.args.self.now)) loop.so_far.3
                (subst (λ (one : Table → List ℕ → List Step). BreaksOff (shown_by g.E.Engine.about c.finish.new.sessions).table (script_moves one (shown_by g.E.Engine.about c.loop-taken.self-inside.sessions).table (last_line c.loop-taken.self-inside.gathered)) (got c.loop-taken.out) (got c.finish.new.out))
                same_moves w.in-Err-finish.ensures.carried),
          ),
        )
      ],
    )

pub returns-in-Err-feed-clause-served : goal.returns-in-Err-feed-clause-served
returns-in-Err-feed-clause-served g c =
    let loop = c.loop-taken.invariant in
    let same_moves = moves_stay (shown_by g.E.Engine.about c.args.self.now) (shown_by g.E.Engine.about c.loop-taken.self-inside.sessions) loop.stays in
    let bytes = take c.in-Ok.count c.read.new.into in
    let same : take c.in-Ok.count (c.read.new.into ++ drop c.min-room.result c.loop-taken.piece) ≡ bytes = grind (arith, common_steps) in
    let got = g.O.Sink.got in
    let broken : BreaksOff (shown_by g.E.Engine.about c.feed.new.sessions).table (script_moves (moves_of (shown_by g.E.Engine.about c.args.self.now)) (shown_by g.E.Engine.about c.loop-taken.self-inside.sessions).table (ended_from c.loop-taken.self-inside.gathered bytes)) (got c.loop-taken.out) (got c.feed.new.out) =
    subst (λ xs. BreaksOff (shown_by g.E.Engine.about c.feed.new.sessions).table (script_moves (moves_of (shown_by g.E.Engine.about c.args.self.now)) (shown_by g.E.Engine.about c.loop-taken.self-inside.sessions).table (ended_from c.loop-taken.self-inside.gathered xs)) (got c.loop-taken.out) (got c.feed.new.out)) same
    (subst (λ (one : Table → List ℕ → List Step). BreaksOff (shown_by g.E.Engine.about c.feed.new.sessions).table (script_moves one (shown_by g.E.Engine.about c.loop-taken.self-inside.sessions).table (ended_from c.loop-taken.self-inside.gathered (take c.in-Ok.count (c.read.new.into ++ drop c.min-room.result c.loop-taken.piece)))) (got c.loop-taken.out) (got c.feed.new.out)) same_moves c.in-Err-feed.ensures.err) in (
      loop.so_far.0 ++ bytes,
      grind (arith, common_steps, length-append, length-take),
      consumes_more _ _ _ _ _ loop.so_far.2 c.in-Ok.ensures.bytes.0,
      (
        grind (arith, common_steps, length-append, length-take),
        inl (fails_at_once bytes (moves_are_cut (shown_by g.E.Engine.about c.args.self.now)) (grind (arith, common_steps, length-take)) loop.so_far.3 broken),
      ),
    )

pub loop-taken-preserved : goal.loop-taken-preserved
loop-taken-preserved g c =
    let loop = c.loop-taken.invariant in
    let same_moves = moves_stay (shown_by g.E.Engine.about c.args.self.now) (shown_by g.E.Engine.about c.loop-taken.self-inside.sessions) loop.stays in
    let bytes = take c.in-Ok.count c.read.new.into in
    let same : take c.in-Ok.count (c.read.new.into ++ drop c.min-room.result c.loop-taken.piece) ≡ bytes = grind (arith, common_steps) in
    let fed : Fed (moves_of (shown_by g.E.Engine.about c.args.self.now)) (shown_by g.E.Engine.about c.loop-taken.self-inside.sessions).table (shown_by g.E.Engine.about c.feed.new.sessions).table c.loop-taken.self-inside.gathered c.feed.new.gathered bytes (g.O.Sink.got c.loop-taken.out) (g.O.Sink.got c.feed.new.out) =
    subst (λ xs. Fed (moves_of (shown_by g.E.Engine.about c.args.self.now)) (shown_by g.E.Engine.about c.loop-taken.self-inside.sessions).table (shown_by g.E.Engine.about c.feed.new.sessions).table c.loop-taken.self-inside.gathered c.feed.new.gathered xs (g.O.Sink.got c.loop-taken.out) (g.O.Sink.got c.feed.new.out)) same
    (subst (λ (one : Table → List ℕ → List Step). Fed one (shown_by g.E.Engine.about c.loop-taken.self-inside.sessions).table (shown_by g.E.Engine.about c.feed.new.sessions).table c.loop-taken.self-inside.gathered c.feed.new.gathered (take c.in-Ok.count (c.read.new.into ++ drop c.min-room.result c.loop-taken.piece)) (g.O.Sink.got c.loop-taken.out) (g.O.Sink.got c.feed.new.out)) same_moves c.in-Ok-feed.ensures.ok) in
    record {
      so_far = (loop.so_far.0 ++ bytes, grind (arith, common_steps), consumes_more _ _ _ _ _ loop.so_far.2 c.in-Ok.ensures.bytes.0, fed_more (moves_are_cut (shown_by g.E.Engine.about c.args.self.now)) loop.so_far.3 fed);
      stays = stays_more (shown_by g.E.Engine.about c.args.self.now) (shown_by g.E.Engine.about c.loop-taken.self-inside.sessions) (shown_by g.E.Engine.about c.feed.new.sessions) loop.stays c.in-Ok-feed.ensures.stays;
      taken = omega (arith, c.in-Ok.ensures.taken, loop.taken);
      reads = c.in-Ok.ensures.cause.stayed ∙ loop.reads;
      writes = c.in-Ok-feed.ensures.cause.stayed ∙ loop.writes;
      within = grind (arith, common_steps);
    }
