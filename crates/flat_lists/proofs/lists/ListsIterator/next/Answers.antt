use Rattle.std.proofs.Common.{rules, ◌≤◌, length, subst}
use Rattle.flat_lists.specs.Flat.{EndAt}
use Rattle.flat_lists.proofs.Pieces.{EndAt-start}
use Rattle.flat_lists.proofs.lists.ListsIterator.next.Goals as goal

pub offset_bounds-items-start : goal.offset_bounds-items-start
offset_bounds-items-start g c =
    let most : c.self.inside.start ≤ length c.self.inside.items.now = EndAt-start _ _ _ c.self.invariant in
    search rules

pub slice_bounds-result-end : goal.slice_bounds-result-end
slice_bounds-result-end g c =
    let cut = subst (EndAt (length c.self.inside.items.now) c.self.inside.start) c.in_ok-end.ensures.cases.0 c.self.invariant in
    let most : c.in_ok-end.end.now ≤ length c.self.inside.items.now = EndAt-start _ _ _ cut.1 in
    search rules
