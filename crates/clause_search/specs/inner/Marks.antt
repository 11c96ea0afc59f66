-- Marks of variables that are known to be false or true.
use Rattle.std.specs.Prelude.{◌≡◌, ℕ, ◌==◌, Bool, true, false, List, ℤ, pos, negsuc, slice_index_or}
use Rattle.state_rules.specs.Assignments.{Assignment}
use Rattle.clause_encoder.specs.Clauses.{var_of}
use Rattle.clause_search.specs.Searching.{holds}
use Rattle.clause_search.specs.declared.marks.Left.{Left}
use Rattle.clause_search.specs.declared.marks.Left.TheVariants.{Nothing, One, More}

-- the mark of its variable if a literal is false: 1 is false, 2 is true, and 0 is open
abbrev pub false_mark : ℤ → ℕ
false_mark (pos n) = 1
false_mark (negsuc n) = 2

-- whether a literal is marked as false
abbrev pub is_marked : List ℕ → ℤ → Bool
is_marked marks l = slice_index_or marks (var_of l) 0 == false_mark l

-- What is marked as false is false.
pub record Agrees (a : Assignment) (marks : List ℕ) : Type 0 where
  pub falsified : (l : ℤ) → is_marked marks l ≡ true → holds a l ≡ false

-- what is left of a clause that is true: it cannot be nothing, and a single literal is true
abbrev pub IsLeft : Assignment → Left → Type 0
IsLeft a Nothing = ⊥
IsLeft a (One l) = holds a l ≡ true
IsLeft a More = Unit {0}
