use Rattle.std.proofs.Common.{◌≡◌, ◌<◌, ◌∙◌, ◌++◌, ◌∷◌, [], ◌==◌, ap, sym, arith, false, true, get_or, length, subst}
use Rattle.std.proofs.lemmas.Bool.{not-true, not-false}
use Rattle.std.proofs.lemmas.List.{get_or_read}
use Rattle.diag_edge.specs.Adding.{Grown}
use Rattle.session_core.proofs.Texts.{named, passed_over, named_more, named_part}
use Rattle.session_core.proofs.replies.add_faulty.Goals as goal
use Rattle.session_core.proofs.replies.add_faulty.Goals.{then-is_faulty+in_ok-add_word, else-is_faulty}

pub returns-in_err-add_word-clause-bytes : goal.returns-in_err-add_word-clause-bytes
returns-in_err-add_word-clause-bytes g c =
    let so_far = c.loop-i.invariant.added in
    let below : c.loop-i.i < length c.args.state.now = omega arith in
    let off : (get_or c.args.state.now c.loop-i.i 0 == 0) ≡ false = not-true _ (sym c.is_faulty.ensures ∙ c.if-is_faulty.true) in
    let left = named c.args.parts.now c.args.state.now c.loop-i.i c.index-parts-i.result c.as_slice.result.now c.loop-i-test.true below (get_or_read c.args.parts.now c.loop-i.i c.index-parts-i.result c.loop-i-test.true c.index-parts-i.is []) c.as_slice.ensures.bytes off in
    named_part _ _ _ _ _ _ _ so_far.0 _ _ _ _ c.from_residual.ensures.0 so_far.1 so_far.2 left c.in_err-add_word.ensures.bytes

pub loop-i-preserved : goal.loop-i-preserved
loop-i-preserved g c =
    let so_far = c.loop-i.invariant.added in
    let below : c.loop-i.i < length c.args.state.now = omega arith in
    let got = g.O.Sink.got in
    elim c.if-is_faulty.branch [
      | then-is_faulty+in_ok-add_word w ↦
          let off : (get_or c.args.state.now c.loop-i.i 0 == 0) ≡ false = not-true _ (sym c.is_faulty.ensures ∙ w.if-is_faulty.true) in
          let left = named c.args.parts.now c.args.state.now c.loop-i.i c.index-parts-i.result w.as_slice.result.now c.loop-i-test.true below (get_or_read c.args.parts.now c.loop-i.i c.index-parts-i.result c.loop-i-test.true c.index-parts-i.is []) w.as_slice.ensures.bytes off in
          record {
            added = named_more _ _ _ _ _ _ so_far.0 _ _ _ _ so_far.1 so_far.2 left
                (subst (λ chunk. Grown (got c.loop-i.out) (got c.if-is_faulty.out) c.loop-i.chunk chunk (32 ∷ w.as_slice.result.now)) (sym w.chunk-is)
                (subst (λ out. Grown (got c.loop-i.out) (got out) c.loop-i.chunk w.add_word.new.self (32 ∷ w.as_slice.result.now)) (sym w.out-is) w.in_ok-add_word.ensures.bytes));
            faults = ap g.O.Sink.faults w.out-is ∙ w.in_ok-add_word.ensures.cause.stayed ∙ c.loop-i.invariant.faults;
          }
      | else-is_faulty w ↦
          let on : (get_or c.args.state.now c.loop-i.i 0 == 0) ≡ true = not-false _ (sym c.is_faulty.ensures ∙ w.if-is_faulty.false) in
          let left = passed_over c.args.parts.now c.args.state.now c.loop-i.i c.loop-i-test.true below on in
          record {
            added = (
              so_far.0,
              subst (λ chunk. Grown (got c.args.out.now) (got c.if-is_faulty.out) c.args.chunk.now chunk so_far.0) (sym w.chunk-is)
                  (subst (λ out. Grown (got c.args.out.now) (got out) c.args.chunk.now c.loop-i.chunk so_far.0) (sym w.out-is) so_far.1),
              ap (λ t. so_far.0 ++ t) (sym left) ∙ so_far.2,
            );
            faults = ap g.O.Sink.faults w.out-is ∙ c.loop-i.invariant.faults;
          }
    ]
