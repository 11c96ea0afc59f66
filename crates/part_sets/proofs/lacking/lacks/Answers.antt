use Rattle.std.proofs.Common.{arith}
use Rattle.part_sets.proofs.lacking.lacks.Goals as goal

pub returns : goal.returns
returns c = (λ off p lt. grind (arith, c.next_missing.ensures.before p), λ none. grind (arith, none c.next_missing.result, c.next_missing.ensures.found))
