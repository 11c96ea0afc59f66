use Rattle.std.proofs.Common.{◌≡◌, map}
use Rattle.flattener.specs.inner.Expanding.{Grows, wire_at, prefix_of}
use Rattle.flattener.proofs.ExpandedInstances.{so_far}
use Rattle.flattener.proofs.expanding.+expand.Given as goal

-- Blocks use only blocks before them.
abbrev pub decreases-expand : goal.decreases-expand
decreases-expand l = l.place

abbrev pub invariant-loop-used : goal.invariant-loop-used
invariant-loop-used l =
    let wires = l.fn.flat.wires.items in
    record {
      prefix : l.prefix.items ≡ prefix_of l.path;
      grown : Grows l.fn.flat.parts.items wires (so_far l.design l.place l.used-index l.path (map (wire_at wires) l.passed)) l.flat.parts.items l.flat.wires.items;
    }
