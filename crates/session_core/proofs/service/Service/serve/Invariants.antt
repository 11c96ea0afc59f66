use Rattle.session_core.specs.Services.{shown_by}
use Rattle.std.proofs.Common.{◌≡◌, ◌+◌, ◌-◌, ◌≤◌, ℕ, List, [], length}
use Rattle.std.specs.Io.KnownBytes.{Consumes}
use Rattle.session_core.specs.Services.{moves_of, ChangesTable}
use Rattle.session_core.specs.inner.Gathering.{Fed}
use Rattle.session_core.proofs.service.Service.serve.Given as goal

-- the bytes so far were taken and fed
abbrev pub invariant-loop-taken : goal.invariant-loop-taken
invariant-loop-taken g l =
    let I = g.I.Source in
    let O = g.O.Sink in
    record {
      so_far : (bytes : List ℕ) × (l.taken ≡ length bytes)
          × Consumes (I.left l.fn.input) (I.left l.input) bytes
          × Fed (moves_of (shown_by g.E.Engine.about l.fn.self)) (shown_by g.E.Engine.about l.fn.self).table (shown_by g.E.Engine.about l.self-inside.sessions).table [] l.self-inside.gathered bytes (O.got l.fn.out) (O.got l.out);
      stays : ChangesTable (shown_by g.E.Engine.about l.fn.self) (shown_by g.E.Engine.about l.self-inside.sessions);
      taken : I.taken l.input ≡ I.taken l.fn.input + l.taken;
      reads : I.faults l.input ≡ I.faults l.fn.input;
      writes : O.faults l.out ≡ O.faults l.fn.out;
      within : l.taken ≤ l.limit;
    }

abbrev pub decreases-loop-taken : goal.decreases-loop-taken
decreases-loop-taken g l = l.limit - l.taken
