use Rattle.std.proofs.Common.{refl}
use Rattle.level_lister.proofs.Children.{literal_at}
use Rattle.level_lister.proofs.PairNodes.{Told, skipped_told}
use Rattle.level_lister.proofs.pair_pass.PairPass.node_pair.Goals as goal

pub returns-in-Literal : goal.returns-in-Literal
returns-in-Literal c = literal_at c.args.self.now.graph.now c.args.at _ c.args.self.now.valid c.requires.at refl c.args.self.now.skips.now c.if-self-at-ne0.false (Told c.args.self.now.evidence.now c.args.self.now.levels.now.costs c.args.self.now.levels.now.top c.args.self.now.groups c.literal_pair.result) c.in-Literal.var c.in-Literal.positive
    c.in-Literal.ensures.what c.literal_pair.ensures

pub returns-in-And : goal.returns-in-And
returns-in-And c = c.and_pair.ensures c.args.self.now.evidence.now c.args.self.now.groups c.requires.earlier

pub returns-then-lacking-at-eq0 : goal.returns-then-lacking-at-eq0
returns-then-lacking-at-eq0 c = c.full_pair.ensures c.args.self.now.evidence.now c.args.self.now.groups c.requires.earlier

pub returns-then-self-at-ne0 : goal.returns-then-self-at-ne0
returns-then-self-at-ne0 c = skipped_told c.args.self.now.graph.now c.args.self.now.skips.now c.args.self.now.evidence.now c.args.self.now.levels.now.costs c.args.self.now.levels.now.top c.args.self.now.groups c.args.at c.args.self.now.valid c.requires.at c.if-self-at-ne0.true
