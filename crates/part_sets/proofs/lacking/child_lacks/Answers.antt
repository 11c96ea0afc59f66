use Rattle.std.proofs.Common.{sym}
use Rattle.part_sets.proofs.lacking.child_lacks.Goals as goal

pub returns-in-Or : goal.returns-in-Or
returns-in-Or c = (λ none what. c.one_lacks.ensures.0 none, λ none. c.one_lacks.ensures.1 (none (sym c.in-Or.ensures.what)))
