use Rattle.std.proofs.Common.{◌≡◌, ◌++◌, ℕ, List, drop}
use Rattle.diag_edge.specs.Adding.{Grown}
use Rattle.conditioner.specs.Evidence.{bits_of}
use Rattle.session_rules.specs.Replies.{faulty_names}
use Rattle.session_core.specs.inner.Texts.{spaced_before}
use Rattle.session_core.proofs.replies.add_faulty.Given as goal

-- the names added and those left are all
abbrev pub invariant-loop-i : goal.invariant-loop-i
invariant-loop-i g l =
    let O = g.O.Sink in
    record {
      added : (text : List ℕ) × Grown (O.got l.fn.out) (O.got l.out) l.fn.chunk l.chunk text
          × (text ++ spaced_before (faulty_names (drop l.i l.parts) (bits_of (drop l.i l.state))) ≡ spaced_before (faulty_names l.parts (bits_of l.state)));
      faults : O.faults l.out ≡ O.faults l.fn.out;
    }
