-- What a search is asked: clauses, variables that are defined by sums, and literals to assume. What it answers: bits that keep all of these, or
-- that there are none.
use Rattle.std.specs.Prelude.{◌≡◌, ℕ, ◌+◌, ◌-◌, ◌≤◌, Bool, true, false, ◌&&◌, if◌then◌else◌, List, [], ◌∷◌, length, ℤ, pos, nat_le}
use Rattle.std.specs.List.{list_all}
use Rattle.state_rules.specs.Bits.{same_bit}
use Rattle.state_rules.specs.Assignments.{Assignment, assignment}
use Rattle.clause_encoder.specs.Clauses.{ClauseList, is_positive, var_of, all_hold}
use Rattle.clause_search.specs.declared.weighted.Weighted.{Weighted}

-- whether a literal is true
abbrev pub holds : Assignment → ℤ → Bool
holds a l = same_bit (is_positive l) (a (var_of l))

abbrev pub all_true : Assignment → List ℤ → Bool
all_true a literals = list_all (holds a) literals

-- how much those literals weigh together that are false
abbrev pub false_weight : Assignment → List Weighted → ℕ
false_weight a [] = 0
false_weight a (m ∷ members) = (if holds a m.literal then 0 else m.weight) + false_weight a members

-- whether the variable `v` is true exactly if its false members weigh at most its limit, and so on for the variables after it
abbrev pub respects : Assignment → ℕ → List (List Weighted) → List ℕ → Bool
respects a v [] limits = true
respects a v (m ∷ members) [] = true
respects a v (m ∷ members) (k ∷ limits) = same_bit (a v) (nat_le (false_weight a m) k) && respects a (v + 1) members limits

-- Clauses, and variables that are defined, after those of the clauses. Each has its members, and a limit.
pub record Rules : Type 0 where
  pub cnf : ClauseList
  pub members : List (List Weighted)
  pub limits : List ℕ

-- whether all clauses are true, and the definitions are respected
abbrev pub keeps : Rules → Assignment → Bool
keeps rules a = all_hold a rules.cnf.clauses && respects a (rules.cnf.vars + 1) rules.members rules.limits

-- the number of variables: those of the clauses, and the defined ones
abbrev pub all_vars : Rules → ℕ
all_vars rules = rules.cnf.vars + length rules.members

-- the literals that say of the parts that they are ok, each with the cost of the part; the first variable is `v`
abbrev pub priced : ℕ → List ℕ → List Weighted
priced v [] = []
priced v (c ∷ costs) = record { literal = pos v; weight = c } ∷ priced (v + 1) costs

-- Two variables are always defined: each says whether the faulty parts cost at most its limit.
abbrev pub first_rules : ClauseList → List ℕ → Rules
first_rules cnf costs = record { cnf = cnf; members = priced 1 costs ∷ priced 1 costs ∷ []; limits = 0 ∷ 0 ∷ [] }

-- whether a literal has a variable from 1 to `vars`
abbrev pub is_within : ℕ → ℤ → Bool
is_within vars l = nat_le 1 (var_of l) && nat_le (var_of l) vars

abbrev pub are_within : ℕ → List ℤ → Bool
are_within vars literals = list_all (is_within vars) literals

-- whether the members of the variable `v` have variables before it, and so on for the variables after it
abbrev pub are_ordered : ℕ → List (List Weighted) → Bool
are_ordered v [] = true
are_ordered v (m ∷ members) = list_all (λ (w : Weighted). is_within (v - 1) w.literal) m && are_ordered (v + 1) members

-- A search: its rules, and the bits and the literals that it found last.
pub record Searched : Type 0 where
  pub rules : Rules
  pub model : List Bool
  pub core : List ℤ

-- Bits for all variables, by which the rules are kept and all literals are true.
pub record IsModel (rules : Rules) (literals : List ℤ) (bits : List Bool) : Type 0 where
  pub long : all_vars rules ≤ length bits
  pub kept : keeps rules (assignment bits) ≡ true
  pub assumed : all_true (assignment bits) literals ≡ true

-- the literals are not all true under any assignment that keeps the rules
abbrev pub Refutes : Rules → List ℤ → Type 0
Refutes rules literals = (a : Assignment) → keeps rules a ≡ true → all_true a literals ≡ false
