use Rattle.std.proofs.Common.{sym, ◌++◌, ◌-◌, [], ◌∷◌, map, reverse, ap, ◌∙◌, arith}
use Rattle.std.proofs.lemmas.List.{map-append, append_assoc, reverse-append}
use Rattle.std.proofs.lemmas.List.FromFn.{map-range_with_len_more}
use Rattle.indexmap.proofs.ReorderLemmas.{map-reverse}
use Rattle.forest_states.specs.inner.Descents.{column_at, stand_part, stand_of}
use Rattle.forest_states.proofs.Numbers.{back-all}
use Rattle.forest_states.proofs.places.go_apart.Goals as goal

pub loop-behind-preserved : goal.loop-behind-preserved
loop-behind-preserved c =
    let n = c.loop-behind.behind in
    let base = stand_of c.args.base.now in
    let old = map stand_of c.args.pending.now.items in
    record {
      columns = ap (map (λ v. v.items)) c.in_ok-push.ensures.items ∙ map-append (λ v. v.items) c.loop-behind.columns.items (c.in_ok-column.column ∷ [])
          ∙ (λ j. c.loop-behind.invariant.columns j ++ c.in_ok-column.ensures.column j ∷ [])
          ∙ sym (map-range_with_len_more (λ i. column_at c.args.cnf.now.clauses c.args.trees c.args.seen.now c.args.numbers.now (c.args.trees - 1 - i) base) 0 n n (omega arith));
      pending = ap (map stand_of) c.in_ok-push-2.ensures.items ∙ map-append stand_of c.loop-behind.pending.items (c.in_ok-column.spot ∷ [])
          ∙ (λ j. c.loop-behind.invariant.pending j ++ c.in_ok-column.ensures.spot j ∷ [])
          ∙ append_assoc old _ _
          ∙ ap (λ ss. old ++ ss) (sym (map-range_with_len_more (λ i. stand_part c.args.cnf.now.clauses c.args.trees c.args.seen.now c.args.numbers.now (c.args.trees - 1 - i) base) 0 n n (omega arith)));
    }

pub returns-clause-columns : goal.returns-clause-columns
returns-clause-columns c =
    ap (map (λ v. v.items)) c.reverse.ensures.items ∙ map-reverse (λ v. v.items) c.loop-behind.columns.items ∙ ap reverse c.loop-behind.invariant.columns
    ∙ back-all (λ i. column_at c.args.cnf.now.clauses c.args.trees c.args.seen.now c.args.numbers.now i (stand_of c.args.base.now)) c.args.trees c.loop-behind.behind (omega arith) c.loop-behind-test.false

pub returns-clause-pending : goal.returns-clause-pending
returns-clause-pending c =
    let old = map stand_of c.args.pending.now.items in
    ap reverse c.loop-behind.invariant.pending ∙ reverse-append old _
    ∙ ap (λ ss. ss ++ reverse old) (back-all (λ i. stand_part c.args.cnf.now.clauses c.args.trees c.args.seen.now c.args.numbers.now i (stand_of c.args.base.now)) c.args.trees c.loop-behind.behind (omega arith) c.loop-behind-test.false)
