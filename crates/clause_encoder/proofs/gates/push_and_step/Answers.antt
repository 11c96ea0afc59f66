use Rattle.std.proofs.Common.{[], ◌∷◌, not, arith}
use Rattle.std.proofs.lemmas.Result.{on_ok_weaker}
use Rattle.clause_encoder.specs.Clauses.{literal}
use Rattle.clause_encoder.proofs.WrittenClauses.{passed, three-written}
use Rattle.clause_encoder.proofs.gates.push_and_step.Goals as goal

pub returns : goal.returns
returns c =
    let s = c.args.as_is in
    let z = c.args.inner in
    let b = c.args.before in
    let x = c.args.input in
    on_ok_weaker c.push-3.result
    (λ e. three-written c.args.writer.now.clauses c.push.new.self.clauses c.push-2.new.self.clauses c.push-3.new.self.clauses
    (literal (not s) z ∷ literal s b ∷ []) (literal (not s) z ∷ literal s x ∷ []) (literal s z ∷ literal (not s) b ∷ literal (not s) x ∷ [])
    (grind (arith, passed)) (grind (arith, passed)) (grind (arith, passed)))
    c.push-3.ensures
