use Rattle.projector.proofs.Projected.{projected_text-is_neat, projected_text-means}
use Rattle.projector.proofs.writing.write_projected.Goals as goal

pub returns-clause-neat : goal.returns-clause-neat
returns-clause-neat g c = projected_text-is_neat c.args.graph.now c.args.evidence.now c.args.parts c.put.ensures.valid c.requires.evidence c.requires.parts c.requires.few

pub returns-clause-models : goal.returns-clause-models
returns-clause-models g c = projected_text-means c.args.graph.now c.args.evidence.now c.args.parts c.put.ensures.valid c.requires.evidence c.requires.parts c.requires.few
