-- Clauses with other variables in place of their own.
use Rattle.std.specs.Prelude.{ℕ, ◌-◌, List, map, ℤ, slice_index_or}
use Rattle.clause_encoder.specs.Clauses.{var_of, is_positive, literal, ClauseList}
use Rattle.clause_encoder.specs.Encoding.{tidy}

-- the variable that replaces variable v: that at place v - 1
abbrev pub variable_for : List ℕ → ℕ → ℕ
variable_for variables v = slice_index_or variables (v - 1) 0

abbrev pub literal_for : List ℕ → ℤ → ℤ
literal_for variables l = literal (is_positive l) (variable_for variables (var_of l))

-- The clauses with `variables`, from 1 to `vars`, in place of their own; they are tidy again.
abbrev pub replaced : List ℕ → ℕ → ClauseList → ClauseList
replaced variables vars cnf = record { vars = vars; clauses = tidy (map (map (literal_for variables)) cnf.clauses) }
