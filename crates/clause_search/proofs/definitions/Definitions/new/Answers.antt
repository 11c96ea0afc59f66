use Rattle.std.proofs.Common.{arith}
use Rattle.clause_search.proofs.Defined.{priced_ordered}
use Rattle.clause_search.proofs.definitions.Definitions.new.Goals as goal

pub returns-clause-ordered : goal.returns-clause-ordered
returns-clause-ordered c = λ vars h. rw c.in_ok-priced.ensures (rw c.in_ok-with_room.ensures (priced_ordered vars c.args.costs.now h))
