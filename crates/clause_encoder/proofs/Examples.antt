-- Worked rows: the clauses of small devices.
use Rattle.std.proofs.Common.{◌≡◌, ℕ, List, [], ◌∷◌, ◌++◌, map, ℤ, pos, neg_ℤ, refl}
use Rattle.std.specs.Prelude.{codes}
use Rattle.device_model.specs.declared.gates.Kind.{Kind}
use Rattle.device_model.specs.declared.gates.Kind.TheVariants.{And, Or, Nor, Xor, Xnor, Not, Table}
use Rattle.device_model.specs.TruthTable.{TruthTable}
use Rattle.device_model.specs.Devices.{Device}
use Rattle.clause_encoder.specs.Clauses.{Clause}
use Rattle.clause_encoder.specs.Encoding.{clause_list, raw_count, tidy}

-- the variable, and the variable negated
abbrev p : ℕ → ℤ
p v = pos v

abbrev n : ℕ → ℤ
n v = neg_ℤ (pos v)

-- a device of one part y, over these wires
abbrev one_part : Kind → List ℕ → List (List ℕ) → List TruthTable → Device
one_part kind ports wires tables = record { parts = record { name = codes "y"; kind = kind; ports = ports } ∷ []; wires = wires; tables = tables }

-- y is a gate of the wire a
abbrev of_a : Kind → List ℕ → Device
of_a gate inputs = one_part gate (inputs ++ 1 ∷ []) (codes "a" ∷ codes "y" ∷ []) []

-- y is a gate of the wires a and b
abbrev of_a_and_b : Kind → Device
of_a_and_b gate = one_part gate (0 ∷ 1 ∷ 2 ∷ []) (codes "a" ∷ codes "b" ∷ codes "y" ∷ []) []

inverter : (clause_list (of_a Not (0 ∷ []))).clauses ≡ (n 1 ∷ p 2 ∷ p 3 ∷ []) ∷ (n 1 ∷ n 2 ∷ n 3 ∷ []) ∷ []
inverter = refl

and : (clause_list (of_a_and_b And)).clauses ≡ (n 1 ∷ p 2 ∷ n 4 ∷ []) ∷ (n 1 ∷ p 3 ∷ n 4 ∷ []) ∷ (n 1 ∷ n 2 ∷ n 3 ∷ p 4 ∷ []) ∷ []
and = refl

or : (clause_list (of_a_and_b Or)).clauses ≡ (n 1 ∷ n 2 ∷ p 4 ∷ []) ∷ (n 1 ∷ n 3 ∷ p 4 ∷ []) ∷ (n 1 ∷ p 2 ∷ p 3 ∷ n 4 ∷ []) ∷ []
or = refl

-- ok allows 00 and 11, faulty allows 10
abbrev tabled : Device
tabled = one_part (Table 0) (0 ∷ 1 ∷ []) (codes "a" ∷ codes "b" ∷ []) (record { ports = 2; ok = 9; bad = 2; cost = 1 } ∷ [])

table : (clause_list tabled).clauses
    ≡ (n 1 ∷ n 2 ∷ p 3 ∷ []) ∷ (n 1 ∷ p 2 ∷ n 3 ∷ []) ∷ (p 1 ∷ p 2 ∷ p 3 ∷ []) ∷ (p 1 ∷ p 2 ∷ n 3 ∷ []) ∷ (p 1 ∷ n 2 ∷ n 3 ∷ []) ∷ []
table = refl

table_count : raw_count tabled ≡ 5
table_count = refl

-- ---- chains

-- y is a gate of the wires a, b, c and d
abbrev of_four : Kind → Device
of_four gate = one_part gate (0 ∷ 1 ∷ 2 ∷ 3 ∷ 4 ∷ []) (map codes ("a" ∷ "b" ∷ "c" ∷ "d" ∷ "y" ∷ [])) []

-- four inputs need no chain
and_of_four : clause_list (of_four And) ≡ record {
  vars = 6;
  clauses = (n 1 ∷ p 2 ∷ n 6 ∷ []) ∷ (n 1 ∷ p 3 ∷ n 6 ∷ []) ∷ (n 1 ∷ p 4 ∷ n 6 ∷ []) ∷ (n 1 ∷ p 5 ∷ n 6 ∷ []) ∷ (n 1 ∷ n 2 ∷ n 3 ∷ n 4 ∷ n 5 ∷ p 6 ∷ []) ∷ [];
}
and_of_four = refl

-- y is a gate of the wires a to e, which are the variables 2 to 6; the inner variables are 8 to 10
abbrev of_five : Kind → Device
of_five gate = one_part gate (0 ∷ 1 ∷ 2 ∷ 3 ∷ 4 ∷ 5 ∷ []) (map codes ("a" ∷ "b" ∷ "c" ∷ "d" ∷ "e" ∷ "y" ∷ [])) []

abbrev nor_chain : List Clause
nor_chain =
    (n 2 ∷ p 8 ∷ []) ∷ (n 3 ∷ p 8 ∷ []) ∷ (p 2 ∷ p 3 ∷ n 8 ∷ [])
    ∷ (n 8 ∷ p 9 ∷ []) ∷ (n 4 ∷ p 9 ∷ []) ∷ (p 4 ∷ p 8 ∷ n 9 ∷ [])
    ∷ (n 9 ∷ p 10 ∷ []) ∷ (n 5 ∷ p 10 ∷ []) ∷ (p 5 ∷ p 9 ∷ n 10 ∷ [])
    ∷ (n 1 ∷ n 7 ∷ n 10 ∷ []) ∷ (n 1 ∷ n 6 ∷ n 7 ∷ []) ∷ (n 1 ∷ p 6 ∷ p 7 ∷ p 10 ∷ []) ∷ []

nor_of_five : clause_list (of_five Nor) ≡ record { vars = 10; clauses = nor_chain }
nor_of_five = refl

abbrev xor_chain : List Clause
xor_chain =
    (p 2 ∷ p 3 ∷ n 8 ∷ []) ∷ (n 2 ∷ n 3 ∷ n 8 ∷ []) ∷ (p 2 ∷ n 3 ∷ p 8 ∷ []) ∷ (n 2 ∷ p 3 ∷ p 8 ∷ [])
    ∷ (p 4 ∷ p 8 ∷ n 9 ∷ []) ∷ (n 4 ∷ n 8 ∷ n 9 ∷ []) ∷ (n 4 ∷ p 8 ∷ p 9 ∷ []) ∷ (p 4 ∷ n 8 ∷ p 9 ∷ [])
    ∷ (p 5 ∷ p 9 ∷ n 10 ∷ []) ∷ (n 5 ∷ n 9 ∷ n 10 ∷ []) ∷ (n 5 ∷ p 9 ∷ p 10 ∷ []) ∷ (p 5 ∷ n 9 ∷ p 10 ∷ [])
    ∷ (n 1 ∷ p 6 ∷ n 7 ∷ p 10 ∷ []) ∷ (n 1 ∷ p 6 ∷ p 7 ∷ n 10 ∷ []) ∷ (n 1 ∷ n 6 ∷ p 7 ∷ p 10 ∷ []) ∷ (n 1 ∷ n 6 ∷ n 7 ∷ n 10 ∷ []) ∷ []

xor_of_five : clause_list (of_five Xor) ≡ record { vars = 10; clauses = xor_chain }
xor_of_five = refl

xor_of_five_count : raw_count (of_five Xor) ≡ 16
xor_of_five_count = refl

-- Both parts have the wire a, which is variable 3, five times. The inner variables of x are 6 to 8, and those of y 9 to 11.
abbrev two_of_five : Device
two_of_five = record {
  parts = record { name = codes "x"; kind = Nor; ports = 0 ∷ 0 ∷ 0 ∷ 0 ∷ 0 ∷ 1 ∷ [] } ∷ record { name = codes "y"; kind = Xnor; ports = 0 ∷ 0 ∷ 0 ∷ 0 ∷ 0 ∷ 2 ∷ [] } ∷ [];
  wires = codes "a" ∷ codes "x" ∷ codes "y" ∷ [];
  tables = [];
}

-- two clauses of the first step of y are always true
abbrev two_chains : List Clause
two_chains =
    (n 3 ∷ p 6 ∷ []) ∷ (n 3 ∷ p 6 ∷ []) ∷ (p 3 ∷ n 6 ∷ [])
    ∷ (n 6 ∷ p 7 ∷ []) ∷ (n 3 ∷ p 7 ∷ []) ∷ (p 3 ∷ p 6 ∷ n 7 ∷ [])
    ∷ (n 7 ∷ p 8 ∷ []) ∷ (n 3 ∷ p 8 ∷ []) ∷ (p 3 ∷ p 7 ∷ n 8 ∷ [])
    ∷ (n 1 ∷ n 4 ∷ n 8 ∷ []) ∷ (n 1 ∷ n 3 ∷ n 4 ∷ []) ∷ (n 1 ∷ p 3 ∷ p 4 ∷ p 8 ∷ [])
    ∷ (p 3 ∷ n 9 ∷ []) ∷ (n 3 ∷ n 9 ∷ [])
    ∷ (p 3 ∷ p 9 ∷ n 10 ∷ []) ∷ (n 3 ∷ n 9 ∷ n 10 ∷ []) ∷ (n 3 ∷ p 9 ∷ p 10 ∷ []) ∷ (p 3 ∷ n 9 ∷ p 10 ∷ [])
    ∷ (p 3 ∷ p 10 ∷ n 11 ∷ []) ∷ (n 3 ∷ n 10 ∷ n 11 ∷ []) ∷ (n 3 ∷ p 10 ∷ p 11 ∷ []) ∷ (p 3 ∷ n 10 ∷ p 11 ∷ [])
    ∷ (n 2 ∷ p 3 ∷ p 5 ∷ p 11 ∷ []) ∷ (n 2 ∷ p 3 ∷ n 5 ∷ n 11 ∷ []) ∷ (n 2 ∷ n 3 ∷ n 5 ∷ p 11 ∷ []) ∷ (n 2 ∷ n 3 ∷ p 5 ∷ n 11 ∷ []) ∷ []

two_chains_clauses : clause_list two_of_five ≡ record { vars = 11; clauses = two_chains }
two_chains_clauses = refl

two_chains_count : raw_count two_of_five ≡ 28
two_chains_count = refl

-- sorted by variable, each literal once
sorted_distinct : tidy ((n 4 ∷ p 2 ∷ n 4 ∷ p 3 ∷ []) ∷ []) ≡ (p 2 ∷ p 3 ∷ n 4 ∷ []) ∷ []
sorted_distinct = refl
