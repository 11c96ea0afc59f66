use Rattle.std.proofs.Common.{◌≡◌, ◌∷◌, take}
use Rattle.std.specs.List.{flat_map}
use Rattle.diag_edge.specs.Adding.{Grown}
use Rattle.diag_edge.proofs.chunk.Chunk.add_words.Given as goal

-- the words before the place were added
abbrev pub invariant-loop-word : goal.invariant-loop-word
invariant-loop-word g l =
    let O = g.O.Sink in
    record {
      added : Grown (O.got l.fn.out) (O.got l.out) l.fn.self l.self (flat_map (λ w. 32 ∷ w.now) (take l.word-index l.words));
      faults : O.faults l.out ≡ O.faults l.fn.out;
    }
