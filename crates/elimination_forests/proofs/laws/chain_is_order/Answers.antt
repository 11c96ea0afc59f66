use Rattle.elimination_forests.proofs.Chains.{chain-forest, chain-sum, chain-forks}
use Rattle.elimination_forests.proofs.LastLevels.{last-few, chain-whole}
use Rattle.elimination_forests.proofs.LastWays.{chain-last}
use Rattle.elimination_forests.proofs.laws.chain_is_order.Goals as goal

pub returns-clause-forest : goal.returns-clause-forest
returns-clause-forest c = chain-forest

pub returns-clause-sum : goal.returns-clause-sum
returns-clause-sum c = chain-whole

pub returns-clause-levels : goal.returns-clause-levels
returns-clause-levels c = chain-sum

pub returns-clause-whole : goal.returns-clause-whole
returns-clause-whole c = chain-last

pub returns-clause-last : goal.returns-clause-last
returns-clause-last c = λ cnf. last-few cnf.clauses

pub returns-clause-forks : goal.returns-clause-forks
returns-clause-forks c = chain-forks
