use Rattle.std.proofs.Common.{◌∷◌, take}
use Rattle.std.specs.List.{flat_map}
use Rattle.nnf_text.specs.Extending.{Extends}
use Rattle.nnf_text.proofs.lines.add_listed.Given as goal

-- those before the place were added
abbrev pub invariant-loop-number : goal.invariant-loop-number
invariant-loop-number g l =
    let O = g.O.Sink in
    Extends (O.shown l.fn.out) (O.shown l.out) l.fn.text l.text (flat_map (λ n. 32 ∷ g.I.Integer.text n) (take l.number-index l.numbers))
