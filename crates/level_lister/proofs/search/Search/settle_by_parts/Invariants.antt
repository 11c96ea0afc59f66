use Rattle.std.proofs.Common.{◌<◌, All, length}
use Rattle.diagnosis_lister.proofs.FixedParts.{Settles}
use Rattle.level_lister.specs.inner.Searching.{OfCost}
use Rattle.level_lister.proofs.search.Search.settle_by_parts.Given as goal

-- the parts before this one are fixed
abbrev pub invariant-loop-part : goal.invariant-loop-part
invariant-loop-part g l = record {
  small : All (λ w. w < 3) l.evidence;
  settles : Settles (λ evidence h. OfCost l.self.graph.now evidence l.self.levels.now.costs l.cost h) (length l.self.levels.now.costs) l.fn.evidence l.evidence l.part;
}
