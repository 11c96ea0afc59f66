use Rattle.std.proofs.Common.{refl}
use Rattle.state_rules.specs.Ranking.{cost}
use Rattle.level_lister.proofs.FirstByCost.{listed-has, first-from}
use Rattle.level_lister.proofs.search.Search.find_from.Goals as goal

pub returns-in-None-clause-found : goal.returns-in-None-clause-found
returns-in-None-clause-found g c =
    (refl, λ h l. c.in-None.ensures.next (cost c.args.self.now.levels.now.costs h) l.low l.high (listed-has c.args.self.now.graph.now c.args.evidence.now c.args.self.now.levels.now.costs c.args.self.now.levels.now.top c.args.from h l))

pub returns-in-Some-clause-found : goal.returns-in-Some-clause-found
returns-in-Some-clause-found g c =
    let found = c.in-Some.ensures.next in record {
      others = c.settle.ensures.others;
      first = first-from c.args.self.now.graph.now c.args.evidence.now c.args.self.now.levels.now.costs c.args.self.now.levels.now.top c.args.from c.in-Some.cost _ found.0 found.1 found.3 c.settle.ensures.first;
      cost_is = c.settle.ensures.first.meets.cost_is;
    }
