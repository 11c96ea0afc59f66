-- Clauses over numbered variables: clause lists, and the bits that make all clauses true.
use Rattle.std.specs.Prelude.{ℕ, ◌+◌, Bool, true, false, ◌&&◌, List, [], ◌∷◌, length, ℤ, pos, negsuc, neg_ℤ, nat_lt, nat_le}
use Rattle.std.specs.List.{list_any, list_all}
use Rattle.state_rules.specs.Bits.{same_bit}
use Rattle.state_rules.specs.Assignments.{Assignment}
use Rattle.clause_encoder.specs.declared.limits.TheConstants.{CLAUSE_LIMIT, VARIABLE_LIMIT}

-- the variable of a literal; a negated literal is below 0
abbrev pub var_of : ℤ → ℕ
var_of (pos n) = n
var_of (negsuc n) = n + 1

abbrev pub is_positive : ℤ → Bool
is_positive (pos n) = true
is_positive (negsuc n) = false

-- the literal that is true if the variable has the bit
abbrev pub literal : Bool → ℕ → ℤ
literal true v = pos v
literal false v = neg_ℤ (pos v)

abbrev pub Clause : Type 0
Clause = List ℤ

-- The variables are 1 to `vars`.
pub record ClauseList : Type 0 where
  pub vars : ℕ
  pub clauses : List Clause

-- whether one of the literals of a clause is true
abbrev pub is_true_clause : Assignment → Clause → Bool
is_true_clause a clause = list_any (λ l. same_bit (is_positive l) (a (var_of l))) clause

abbrev pub all_hold : Assignment → List Clause → Bool
all_hold a clauses = list_all (is_true_clause a) clauses

-- whether each variable is above the one before
abbrev pub vars_rise : ℕ → Clause → Bool
vars_rise below [] = true
vars_rise below (l ∷ clause) = nat_lt below (var_of l) && vars_rise (var_of l) clause

-- one literal or more, with rising variables from 1 to `vars`
abbrev pub is_clause : ℕ → Clause → Bool
is_clause vars [] = false
is_clause vars (l ∷ clause) = vars_rise 0 (l ∷ clause) && list_all (λ k. nat_le (var_of k) vars) (l ∷ clause)

abbrev pub is_clause_list : ClauseList → Bool
is_clause_list cnf =
    (nat_lt cnf.vars VARIABLE_LIMIT && nat_le (length cnf.clauses) CLAUSE_LIMIT) && list_all (is_clause cnf.vars) cnf.clauses
