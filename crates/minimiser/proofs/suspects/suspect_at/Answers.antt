use Rattle.std.proofs.Common.{refl}
use Rattle.minimiser.proofs.OnePass.{the_node, literal_at}
use Rattle.minimiser.proofs.suspects.suspect_at.Goals as goal

pub suspect_of-requires-clause-var : goal.suspect_of-requires-clause-var
suspect_of-requires-clause-var c = (literal_at _ _ _ _ _ c.what.ensures.valid (the_node _ _ _ _ c.requires.at c.in-Literal.ensures.what refl)).0
