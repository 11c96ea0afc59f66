use Rattle.session_core.specs.inner.Desks.{on_desk}
use Rattle.std.proofs.Common.{◌≡◌, ◌-◌, ◌<◌, length}
use Rattle.session_rules.specs.Sessions.{Entry}
use Rattle.session_table.specs.Tables.{StandsAt}
use Rattle.session_core.specs.Services.{ChangesTable}
use Rattle.session_core.specs.inner.Holding.{HoldsTogether, shown_of}
use Rattle.session_core.proofs.SessionMoves.{Lists}
use Rattle.session_core.proofs.listing.move_so_far.Given as goal

-- the counted states of the listing were shown, and the others are left
abbrev pub invariant-loop : goal.invariant-loop
invariant-loop g l = record {
  lists : (entry : Entry) → StandsAt l.fn.opened.table l.fn.session.place l.fn.session.name.now entry
      → Lists (shown_of (on_desk g.E.Engine.about l.fn.desk).system l.fn.opened) (shown_of (on_desk g.E.Engine.about l.desk).system l.opened) l.fn.listed l.fn.session.place l.fn.session.name.now entry l.fn.count (l.fn.count - l.counter) (g.O.Sink.got l.fn.out) (g.O.Sink.got l.out);
  together : HoldsTogether (on_desk g.E.Engine.about l.desk).system l.opened;
  stays : ChangesTable (shown_of (on_desk g.E.Engine.about l.fn.desk).system l.fn.opened) (shown_of (on_desk g.E.Engine.about l.desk).system l.opened);
  still : l.fn.session.place < length l.opened.table;
  faults : g.O.Sink.faults l.out ≡ g.O.Sink.faults l.fn.out;
}
