use Rattle.std.proofs.Common.{◌++◌, [], ◌∷◌, List, Bool, Some, ap, ◌∙◌, arith}
use Rattle.std.specs.List.{position_or_len}
use Rattle.forest_states.specs.inner.BitLists.{is_same}
use Rattle.forest_states.specs.inner.Descents.{joined, picked, parts_by}
use Rattle.forest_states.proofs.Sets.{part-place, part-joined, mapped-more}
use Rattle.forest_states.proofs.places.part.Goals as goal

pub loop-at-preserved : goal.loop-at-preserved
loop-at-preserved c =
    let states = c.args.states.now.lists in
    let f = picked c.args.picks.now in
    let k = c.loop-at.at in
    let s = c.at.result in
    let at = c.at.ensures in
    let to = c.in_ok-add.ensures.place ∙ (λ j. position_or_len (is_same (c.in_ok-pick.ensures j)) (c.loop-at.invariant.parts j)) ∙ part-place f states k s at in
    record {
      few = omega (arith, c.in_ok-add.ensures.few, c.loop-at.invariant.few);
      size = c.in_ok-add.ensures.size ∙ c.loop-at.invariant.size;
      parts = c.in_ok-add.ensures.lists ∙ (λ j. joined (c.loop-at.invariant.parts j) (Some (c.in_ok-pick.ensures j))) ∙ part-joined f states k s at;
      column = c.in_ok-push.ensures.items
          ∙ ap (λ n. c.loop-at.column.items ++ n ∷ []) to
          ∙ mapped-more (λ (t : List Bool). position_or_len (is_same (f t)) (parts_by f states)) states c.loop-at.column.items k s at c.loop-at.invariant.column;
    }
