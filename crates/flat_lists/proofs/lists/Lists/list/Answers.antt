use Rattle.std.proofs.Common.{rules, ◌≤◌, length, get_or, arith}
use Rattle.flat_lists.proofs.Pieces.{has_end, IsPiece, piece_at}
use Rattle.flat_lists.proofs.lists.Lists.list.Given.{Over}
use Rattle.flat_lists.proofs.lists.Lists.list.Goals as goal
use Rattle.flat_lists.proofs.lists.Lists.list.Goals.{After-start_at-start}

pub start_at-start-requires : goal.start_at-start-requires
start_at-start-requires g c = has_end c.self.inside.items.now c.self.inside.start c.self.inside.ends.now c.args.self.now c.args.at c.self.view_is c.requires

pub bounds-self-inside-at : goal.bounds-self-inside-at
bounds-self-inside-at g c = has_end c.self.inside.items.now c.self.inside.start c.self.inside.ends.now c.args.self.now c.args.at c.self.view_is c.requires

pub offset_bounds-self-inside-at : goal.offset_bounds-self-inside-at
offset_bounds-self-inside-at g c =
    let lt = has_end c.self.inside.items.now c.self.inside.start c.self.inside.ends.now c.args.self.now c.args.at c.self.view_is c.requires in
    search rules

-- the list lies among the items
piece : (g : Over) (c : After-start_at-start g) → IsPiece c.self.inside.items.now c.self.inside.ends.now c.args.self.now c.args.at c.start_at-start.result (get_or c.self.inside.ends.now c.args.at 0)
piece g c = piece_at c.self.inside.items.now c.self.inside.start c.self.inside.ends.now c.args.self.now c.args.at c.start_at-start.result c.self.invariant c.self.view_is c.requires
    c.start_at-start.ensures

pub offset_bounds-items-start : goal.offset_bounds-items-start
offset_bounds-items-start g c =
    let p = piece g (goal.at.offset_bounds-items-start g c).After-start_at-start in
    let most : c.start_at-start.result ≤ length c.self.inside.items.now = omega (arith, p.order, p.within) in
    search rules

pub slice_bounds-result-count : goal.slice_bounds-result-count
slice_bounds-result-count g c = (piece g (goal.at.slice_bounds-result-count g c).After-start_at-start).order

pub slice_bounds-result-start : goal.slice_bounds-result-start
slice_bounds-result-start g c =
    let order = (piece g (goal.at.slice_bounds-result-start g c).After-start_at-start).order in
    search rules

pub slice_bounds-result-end : goal.slice_bounds-result-end
slice_bounds-result-end g c =
    let p = piece g (goal.at.slice_bounds-result-end g c).After-start_at-start in
    let most : (get_or c.self.inside.ends.now c.args.at 0) ≤ length c.self.inside.items.now = p.within in
    search rules

pub returns : goal.returns
returns g c = (piece g (goal.at.returns g c).After-start_at-start).piece
