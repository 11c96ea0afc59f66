use Rattle.std.proofs.Common.{◌≡◌, map, take}
use Rattle.forest_states.specs.inner.Descents.{ways_found, row_in}
use Rattle.forest_states.proofs.places.Leads.forks.Given as goal

abbrev pub invariant-loop-lead : goal.invariant-loop-lead
invariant-loop-lead l = record {
  zero : l.zero ≡ record { trees = l.self.trees; ways = ways_found (row_in l.self) (map (λ f. f.zero) (take l.lead-index l.self.leads.items)) };
  one : l.one ≡ record { trees = l.self.trees; ways = ways_found (row_in l.self) (map (λ f. f.one) (take l.lead-index l.self.leads.items)) };
}
