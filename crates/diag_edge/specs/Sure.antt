-- What a source and a shelf show whose calls never fail.
use Rattle.std.specs.Prelude.{ℕ, List}

-- a source: the bytes still to come, the most that a read gives, and how many were handed out
pub record SureBytes : Type 0 where
  pub left : List ℕ
  pub piece : ℕ
  pub taken : ℕ

-- a shelf: the one file, its bytes still to come, and how many were handed out
pub record SureFile : Type 0 where
  pub file : List ℕ
  pub left : List ℕ
  pub taken : ℕ
