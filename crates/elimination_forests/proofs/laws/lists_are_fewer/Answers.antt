use Rattle.elimination_forests.proofs.Weights.{fewer, chain-fewer}
use Rattle.elimination_forests.proofs.laws.lists_are_fewer.Goals as goal

pub returns-clause-fewer : goal.returns-clause-fewer
returns-clause-fewer c = fewer

pub returns-clause-chain : goal.returns-clause-chain
returns-clause-chain c = chain-fewer
