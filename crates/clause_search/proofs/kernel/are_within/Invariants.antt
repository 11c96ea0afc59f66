use Rattle.std.proofs.Common.{◌≡◌, drop}
use Rattle.std.specs.List.{list_all}
use Rattle.clause_search.specs.declared.weighted.Weighted.{Weighted}
use Rattle.clause_search.specs.Searching.{is_within}
use Rattle.clause_search.proofs.kernel.are_within.Given as goal

abbrev pub invariant-loop-member : goal.invariant-loop-member
invariant-loop-member l = list_all (λ (w : Weighted). is_within l.last w.literal) (drop l.member-index l.members) ≡ list_all (λ (w : Weighted). is_within l.last w.literal) l.members
