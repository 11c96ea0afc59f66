use Rattle.std.proofs.Common.{◌∷◌}
use Rattle.std.specs.Prelude.{decimal}
use Rattle.std.specs.List.{flat_map, range_with_len}
use Rattle.nnf_text.specs.Extending.{Extends}
use Rattle.nnf_text.proofs.ranges.add_counted_range.Given as goal

-- those before this one were added
abbrev pub invariant-loop-i : goal.invariant-loop-i
invariant-loop-i g l =
    let O = g.O.Sink in
    Extends (O.shown l.initial.out) (O.shown l.out) l.initial.text l.text (flat_map (λ n. 32 ∷ decimal n) (range_with_len l.first l.i))
