-- The states of one cost, as evidence is added.
use Rattle.std.proofs.Common.{ℕ, ◌≤◌, Bool, List, length, arith}
use Rattle.state_rules.specs.Graphs.{Graph}
use Rattle.minimiser.specs.LeastStates.{ModelWithin}
use Rattle.diagnosis_lister.proofs.Allowing.{Allows, allows-within}
use Rattle.level_lister.specs.inner.Searching.{OfCost}

pub allows-cost : (graph : Graph) (costs : List ℕ) (c : ℕ) → length costs ≤ graph.vars → Allows graph.vars (length costs) (λ evidence h. OfCost graph evidence costs c h)
allows-cost graph costs c within = record {
  within = within;
  long = λ {evidence} {h} p. p.long;
  agrees = λ {evidence} {h} long p. a.agrees long (low evidence h p);
  fewer = λ {old} {new} {h} long r p. let q = a.fewer long r (low new h p) in record { long = p.long; model = q.model; cost_is = p.cost_is };
  more = λ {old} {new} {h} long r p agree. let q = a.more long r (low old h p) agree in record { long = p.long; model = q.model; cost_is = p.cost_is };
} where
  a : Allows graph.vars (length costs) (λ evidence h. ModelWithin graph evidence costs c h)
  a = allows-within graph costs c within

  low : (evidence : List ℕ) (h : List Bool) → OfCost graph evidence costs c h → ModelWithin graph evidence costs c h
  low evidence h p = record { long = p.long; model = p.model; cheap = omega (arith, p.cost_is) }
