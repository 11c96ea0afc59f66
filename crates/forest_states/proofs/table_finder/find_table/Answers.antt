use Rattle.std.proofs.Common.{◌≡◌, ◌+◌, ◌-◌, ◌++◌, [], ◌∷◌, not, length, take, drop, replicate, get_or, ap, ◌∙◌, arith}
use Rattle.std.specs.Prelude.{if◌then◌else◌, nat_lt}
use Rattle.std.proofs.lemmas.List.{take_all, length-append, length-replicate, length-drop}
use Rattle.std.proofs.lemmas.List.Sums.{prefix_len-le-length}
use Rattle.forest_states.specs.inner.TransitionTables.{plain}
use Rattle.forest_states.specs.inner.Descents.{transition_of, transition_at, after, met, transitions_of, kept_of}
use Rattle.forest_states.proofs.MetClauses.{transitions-next, kept-next, length-after}
use Rattle.forest_states.proofs.table_finder.find_table.Goals as goal

pub loop-number-preserved : goal.loop-number-preserved
loop-number-preserved c =
    let transition = transition_at c.args.cnf.now.clauses c.args.seen.now c.args.var in
    let i = c.loop-number.number-index in
    let n = get_or c.args.touched.now i 0 in
    let later = drop (i + 1) c.args.touched.now in
    let rest = c.loop-number.rest.now in
    let below = c.count_below-below.ensures in
    let is = c.transition_of-transition.ensures ∙ ap (transition_of c.args.seen.now c.args.var) c.clause_of.ensures in
    let k = c.count_below-below.result in
    let cut : take (length c.loop-number.rest.now - c.count_below-below.result) (drop c.count_below-below.result c.loop-number.rest.now) ≡ drop c.count_below-below.result c.loop-number.rest.now =
    take_all (length rest - k) (drop k rest) (omega (arith, length-drop k rest)) in
    let next = c.after-rest.ensures ∙ (λ j. after c.transition_of-transition.result (cut j)) ∙ (λ j. after (is j) (drop (below j) rest)) in
    let table = c.in_ok-push.ensures ∙ (λ j. c.skip.ensures j ++ is j ∷ []) ∙ (λ j. (c.loop-number.table ++ replicate (below j) plain) ++ transition n ∷ []) in
    record {
      short = omega (
        arith,
        c.loop-number.invariant.short,
        ap length c.after-rest.ensures,
        ap (λ os. length (after c.transition_of-transition.result os)) cut,
        length-after c.transition_of-transition.result (drop k rest),
        length-drop k rest,
        ap length c.in_ok-push.ensures,
        length-append c.skip.new.self (c.transition_of-transition.result ∷ []),
        ap length c.skip.ensures,
        length-append c.loop-number.table (replicate k plain),
        length-replicate k plain,
        below,
        prefix_len-le-length (λ o. nat_lt o n) rest,
      );
      table = (λ j. table j ++ transitions_of (met transition later (next j))) ∙ transitions-next transition c.args.touched.now i rest c.loop-number-test.true c.loop-number.table ∙ c.loop-number.invariant.table;
      kept = (λ j. (c.in_ok-add.ensures ∙ (λ k. c.in_ok-extend_from_slice.ensures.items k ++ (if not (is k).ends then n ∷ [] else [])) ∙ (λ k. (c.loop-number.kept.items ++ take (below k) rest) ++ (if not (transition n).ends then n ∷ [] else []))) j
          ++ kept_of (met transition later (next j))) ∙ kept-next transition c.args.touched.now i rest c.loop-number-test.true c.loop-number.kept.items ∙ c.loop-number.invariant.kept;
    }
