use Rattle.session_core.specs.Services.{shown_by}
use Rattle.std.proofs.Common.{◌≡◌, take}
use Rattle.session_core.specs.Services.{moves_of, ChangesTable}
use Rattle.session_core.specs.inner.Gathering.{Fed}
use Rattle.session_core.proofs.serving.feed.Given as goal

-- the bytes so far were taken
abbrev pub invariant-loop-byte : goal.invariant-loop-byte
invariant-loop-byte g l =
    record {
      fed : Fed (moves_of (shown_by g.E.Engine.about l.fn.sessions)) (shown_by g.E.Engine.about l.fn.sessions).table (shown_by g.E.Engine.about l.sessions).table l.fn.gathered l.gathered (take l.byte-index l.piece) (g.O.Sink.got l.fn.out) (g.O.Sink.got l.out);
      stays : ChangesTable (shown_by g.E.Engine.about l.fn.sessions) (shown_by g.E.Engine.about l.sessions);
      cause : g.O.Sink.faults l.out ≡ g.O.Sink.faults l.fn.out;
    }
