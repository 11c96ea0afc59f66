use Rattle.std.proofs.Common.{length, ap, arith}
use Rattle.std.specs.List.{sum_by}
use Rattle.flat_lists.proofs.Pieces.{sum-all}
use Rattle.flat_lists.proofs.flat.FlatLists.item_count.Goals as goal

pub returns : goal.returns
returns g c = omega (arith, sum-all c.self.inside.items.items c.self.inside.ends.items c.self.invariant, ap (sum_by length) c.self.view_is, c.self.inside.items.ok.0)
