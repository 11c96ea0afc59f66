use Rattle.std.proofs.Common.{◌≡◌, ◌++◌, [], ◌∷◌, map, length, get_or, set, ap, sym, ◌∙◌, arith, rules, pos, w32, FitsSigned}
use lib.IntN.{nat_abs}
use Rattle.std.proofs.lemmas.Int.{to_z-of_z}
use Rattle.std.proofs.lemmas.List.{get_or-map, length-map, map-set, length-set}
use Rattle.clause_encoder.specs.Clauses.{var_of}
use Rattle.forest_states.proofs.ClausesByVariable.{abs-var, had, has}
use Rattle.forest_states.proofs.marks.add_clause.Goals as goal
use Rattle.forest_states.proofs.marks.add_clause.Goals.{then-var-len+in_ok-push, else-var-len}

pub loop-literal-preserved : goal.loop-literal-preserved
loop-literal-preserved c =
    let clause = c.args.clause.now in
    let k = c.loop-literal.literal-index in
    let l = get_or clause k (pos 0) in
    let u = c.unsigned_abs-var.result in
    let items = c.loop-literal.of.items in
    let before = map (λ v. v.items) c.args.of.now.items in
    let fits : FitsSigned w32 (get_or c.args.clause.now c.loop-literal.literal-index (pos 0)) = search rules in
    let is : c.unsigned_abs-var.result ≡ var_of (get_or c.args.clause.now c.loop-literal.literal-index (pos 0)) = c.unsigned_abs-var.ensures.value ∙ ap nat_abs (to_z-of_z w32 l fits) ∙ abs-var l in
    elim c.if-var-len.branch [
      | then-var-len+in_ok-push w ↦
          let low = w.if-var-len.true in
          let new = w.push.new.self.items in
          let pushed = w.in_ok-push.ensures.items ∙ ap (λ ns. ns ++ c.args.number ∷ []) (ap (λ v. v.items) w.index_mut.ensures.value ∙ sym (get_or-map (λ v. v.items) items u w.index_mut.result.now [] (omega (arith, w.if-var-len.true, c.loop-literal.of.ok.0, c.len.ensures)))) in
          record {
            long = ap (λ v. length v.items) w.of-is ∙ length-set items u w.push.new.self ∙ c.loop-literal.invariant.long;
            of = λ v within.
                ap (λ o. get_or (map (λ x. x.items) o.items) v []) w.of-is
                ∙ ap (λ ls. get_or ls v []) (map-set (λ x. x.items) items u w.push.new.self ∙ ap (set (map (λ x. x.items) items) u) pushed)
                ∙ has (map (λ x. x.items) items) u v c.args.number (get_or before v []) clause k (pos 0) c.loop-literal-test.true is (c.loop-literal.invariant.of v (omega (arith, within, ap (λ x. length x.items) w.of-is, length-set items u w.push.new.self))) c.requires
                (omega (arith, within, length-map items (λ x. x.items), ap (λ x. length x.items) w.of-is, length-set items u w.push.new.self));
          }
      | else-var-len w ↦ record {
        long = ap (λ v. length v.items) w.of-is ∙ c.loop-literal.invariant.long;
        of = λ v within. ap (λ o. get_or (map (λ x. x.items) o.items) v []) w.of-is
            ∙ had (map (λ x. x.items) items) u v c.args.number (get_or before v []) clause k (pos 0) c.loop-literal-test.true is (c.loop-literal.invariant.of v (omega (arith, within, ap (λ x. length x.items) w.of-is)))
            (λ same. absurd (omega (arith, same, within, ap (λ x. length x.items) w.of-is, w.if-var-len.false, c.loop-literal.of.ok.0, c.len.ensures)));
      }
    ]
