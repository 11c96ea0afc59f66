use Rattle.std.proofs.Common.{◌≡◌, [], ◌∷◌, false, not, map, arith}
use Rattle.std.proofs.lemmas.Result.{on_ok_weaker}
use Rattle.clause_encoder.specs.Clauses.{literal}
use Rattle.clause_encoder.proofs.WrittenClauses.{passed, item-written, and-all}
use Rattle.clause_encoder.proofs.gates.push_and.Goals as goal

pub loop-input-preserved : goal.loop-input-preserved
loop-input-preserved c =
    item-written c.loop-input.writer.clauses c.push.new.self.clauses _ (λ x. literal false c.args.health ∷ literal (not c.args.output_as_is) c.args.output ∷ literal c.args.inputs_as_is x ∷ [])
    c.args.inputs.now c.loop-input.input-index 0 (omega arith) (grind (arith, passed, c.requires.inputs c.loop-input.input-index 0)) c.loop-input.invariant

pub returns : goal.returns
returns c =
    let inputs = c.args.inputs.now in
    let last : c.add_literals.new.writer.raw.items ≡ literal false c.args.health ∷ literal c.args.output_as_is c.args.output ∷ map (literal (not c.args.inputs_as_is)) inputs = grind (arith, passed) in
    on_ok_weaker c.end.result
    (λ e. and-all c.args.health c.args.output c.args.output_as_is c.args.inputs_as_is inputs c.loop-input.input-index c.loop-input.writer.clauses c.end.new.self.clauses c.args.writer.now.clauses c.add_literals.new.writer.raw.items (omega arith) last c.loop-input.invariant (grind arith))
    c.end.ensures
