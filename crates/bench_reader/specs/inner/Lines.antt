-- The meaning of the code's values for a line, and the tests of its parts.
use Rattle.std.specs.Prelude.{ℕ, ◌+◌, ◌==◌, Bool, true, false, ◌&&◌, List, [], ◌∷◌, length, Option, Some, None, option_map, drop, codes, Result, nat_le, if◌then◌else◌}
use Rattle.std.specs.List.{list_all, filter, position_or_len}
use Rattle.std.specs.Result.{result_map_both}
use Rattle.text_rules.specs.Names.{Name, same_name, is_short_name}
use Rattle.text_rules.specs.Tokens.{tokens}
use Rattle.bench_reader.specs.declared.fault.BenchFault.{BenchFault}
use Rattle.bench_reader.specs.declared.statement.Inputs.{Inputs}
use Rattle.bench_reader.specs.declared.statement.Statement.{Statement as StatementRead}
use Rattle.bench_reader.specs.declared.statement.Statement.TheVariants.{Input as InputRead, Output as OutputRead, Gate as GateRead}
use Rattle.bench_reader.specs.declared.statement.NumberedStatement.{NumberedStatement}
use Rattle.bench_reader.specs.Statements.{Statement, Input, Output, Gate, has_no_mark}

abbrev pub is_capital : ℕ → Bool
is_capital b = nat_le 65 b && nat_le b 90

-- the tokens of a line without a comment
abbrev pub line_tokens : List ℕ → List (List ℕ)
line_tokens line = tokens true line

-- the text after the first opening bracket
abbrev pub behind_bracket : List ℕ → List ℕ
behind_bracket line = drop (position_or_len (λ b. b == 40) line + 1) line

-- the names and the marks after the opening bracket of a gate
abbrev pub input_tokens : Inputs → List (List ℕ)
input_tokens inputs = line_tokens inputs.text.now

-- the names among them
abbrev pub input_names : Inputs → List Name
input_names inputs = filter has_no_mark (input_tokens inputs)

abbrev pub meaning : StatementRead → Statement
meaning (InputRead signal) = Input signal.now
meaning (OutputRead signal) = Output signal.now
meaning (GateRead output kind inputs) = Gate output.now kind (input_names inputs)

abbrev pub meaning_of_line : Result (Option StatementRead) BenchFault → Result (Option Statement) BenchFault
meaning_of_line read = result_map_both (option_map meaning) (λ fault. fault) read

abbrev pub unnumbered : NumberedStatement → Statement
unnumbered numbered = meaning numbered.statement

abbrev pub with_number : NumberedStatement → ℕ × Statement
with_number numbered = (numbered.line, unnumbered numbered)

-- whether the tokens are one closing bracket
abbrev pub is_close : List (List ℕ) → Bool
is_close [] = false
is_close (mark ∷ []) = same_name mark (codes ")")
is_close (mark ∷ next ∷ rest) = false

-- the number of names, if each may name a signal
abbrev pub count_names : List Name → Option ℕ
count_names names = if list_all is_short_name names then Some (length names) else None
