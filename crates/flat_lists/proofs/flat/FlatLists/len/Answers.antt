use Rattle.std.proofs.Common.{length, ap, arith}
use Rattle.flat_lists.proofs.Pieces.{length-pieces}
use Rattle.flat_lists.proofs.flat.FlatLists.len.Goals as goal

pub returns : goal.returns
returns g c = omega (arith, length-pieces c.self.inside.items.items 0 c.self.inside.ends.items, ap length c.self.view_is, c.self.inside.ends.ok.0)
