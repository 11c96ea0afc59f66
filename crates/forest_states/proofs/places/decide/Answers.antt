use Rattle.std.proofs.Common.{◌++◌, [], ◌∷◌, List, Bool, true, false, ap, sym, ◌∙◌, arith}
use Rattle.std.proofs.lemmas.Bool.{false≢true}
use Rattle.forest_states.specs.declared.places.Fork.{Fork}
use Rattle.forest_states.specs.inner.Descents.{joined, lead, successor, decided_states}
use Rattle.forest_states.proofs.Sets.{first-lead, second-lead, both-joined, mapped-more}
use Rattle.forest_states.proofs.places.decide.Goals as goal
use Rattle.forest_states.proofs.places.decide.Goals.{then-keep-2+in_ok-push, else-keep-2}

pub loop-at-preserved : goal.loop-at-preserved
loop-at-preserved c =
    let states = c.args.states.now.lists in
    let f = successor false c.args.table.now in
    let g = successor true c.args.table.now in
    let k = c.loop-at.at in
    let s = c.at.result in
    let at = c.at.ensures in
    let met = c.in_ok-zero.ensures.states ∙ (λ j. joined (c.loop-at.invariant.next j) (c.in_ok-left_by_0.ensures.zero j)) in
    let to_zero = c.in_ok-zero.ensures.place ∙ (λ j. lead (c.loop-at.invariant.next j) (c.in_ok-left_by_0.ensures.zero j)) ∙ first-lead f g states k s at in
    let to_one = c.in_ok-one.ensures.place ∙ (λ j. lead (met j) (c.in_ok-left_by_0.ensures.one j)) ∙ second-lead f g states k s at in
    record {
      few = omega (arith, c.in_ok-zero.ensures.few, c.in_ok-one.ensures.few, c.loop-at.invariant.few);
      size = c.in_ok-one.ensures.size ∙ c.in_ok-zero.ensures.size ∙ c.loop-at.invariant.size;
      next = c.in_ok-one.ensures.states ∙ (λ j. joined (met j) (c.in_ok-left_by_0.ensures.one j)) ∙ both-joined f g states k s at;
      leads = λ keep. elim c.if-keep-2.branch [
        | then-keep-2+in_ok-push w ↦
            ap (λ v. v.items) w.leads-is ∙ w.in_ok-push.ensures.items
            ∙ (λ j. c.loop-at.leads.items ++ (record { zero = to_zero j; one = to_one j }) ∷ [])
            ∙ mapped-more (λ (t : List Bool). let fork : Fork = record { zero = lead (decided_states c.args.table.now states) (f t); one = lead (decided_states c.args.table.now states) (g t) } in fork)
            states c.loop-at.leads.items k s at (c.loop-at.invariant.leads keep)
        | else-keep-2 w ↦ absurd (false≢true (sym w.if-keep-2.false ∙ keep))
      ];
    }
