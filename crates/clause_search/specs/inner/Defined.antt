-- The definitions of variables.
use Rattle.std.specs.Prelude.{ℕ, List}
use Rattle.clause_search.specs.declared.weighted.Weighted.{Weighted}

pub record Defined : Type 0 where
  pub members : List (List Weighted)
  pub limits : List ℕ
