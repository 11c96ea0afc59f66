use Rattle.std.proofs.Common.{◌≡◌, ◌++◌, [], ◌∷◌, false, not, map, drop}
use Rattle.clause_encoder.specs.Clauses.{literal}
use Rattle.clause_encoder.specs.Encoding.{tidy}
use Rattle.clause_encoder.proofs.gates.push_and.Given as goal

-- what is written, and what the inputs left add
abbrev pub invariant-loop-input : goal.invariant-loop-input
invariant-loop-input l =
    l.writer.clauses ++ tidy (map (λ x. literal false l.health ∷ literal (not l.output_as_is) l.output ∷ literal l.inputs_as_is x ∷ []) (drop l.input-index l.inputs))
    ≡ l.fn.writer.clauses ++ tidy (map (λ x. literal false l.health ∷ literal (not l.output_as_is) l.output ∷ literal l.inputs_as_is x ∷ []) l.inputs)
