use Rattle.std.proofs.Common.{◌+◌, ◌++◌, drop, ap, sym, ◌∙◌, arith}
use Rattle.std.proofs.lemmas.List.{append_assoc, drop-drop}
use Rattle.forest_states.specs.inner.BitLists.{copied}
use Rattle.forest_states.proofs.Words.{length-copied, copied-add}
use Rattle.forest_states.proofs.bit_list.BitList.append.Goals as goal

pub pieces-preserved : goal.pieces-preserved
pieces-preserved c =
    let from = c.args.from.now in
    let at = c.args.at in
    let done = c.pieces.done in
    let n = c.piece-many.result in
    record {
      low = omega (arith, c.piece-many.ensures.few, c.pieces.invariant.low);
      bits = c.in_ok-put.ensures (copied n (drop (at + done) from)) (length-copied n (drop (at + done) from)) c.read.ensures
          ∙ ap (λ bits. bits ++ copied n (drop (at + done) from)) c.pieces.invariant.bits
          ∙ append_assoc c.args.self.now (copied done (drop at from)) (copied n (drop (at + done) from))
          ∙ ap (λ bits. c.args.self.now ++ (copied done (drop at from) ++ copied n bits)) (sym (drop-drop done at from))
          ∙ ap (λ bits. c.args.self.now ++ bits) (copied-add done n (drop at from));
    }
