-- The rows that a part of a type allows, and the cost of its failure.
use Rattle.std.specs.Prelude.{ℕ, ◌-◌, ◌^◌, Bool, ◌&&◌, Option, Some, None, nat_le, nat_lt, if◌then◌else◌}
use Rattle.device_model.specs.declared.limits.TheConstants.{TYPE_PORT_LIMIT, COST_LIMIT}

-- Bit r of `ok` (of `bad`) is set if an ok (a faulty) part allows row r.
pub record TruthTable : Type 0 where
  pub ports : ℕ
  pub ok : ℕ
  pub bad : ℕ
  pub cost : ℕ

abbrev pub has_few_ports : ℕ → Bool
has_few_ports ports = nat_le 1 ports && nat_le ports TYPE_PORT_LIMIT

-- the set of all 2 ^ `ports` rows, a bit for each
abbrev pub set_of_all : ℕ → Option ℕ
set_of_all ports = if has_few_ports ports then Some (2 ^ (2 ^ ports) - 1) else None

-- whether a failure may have this cost
abbrev pub is_cost : ℕ → Bool
is_cost cost = nat_le 1 cost && nat_le cost COST_LIMIT

-- whether a table has 1 to 6 ports, only rows of that many ports, and a cost that a failure may have
abbrev pub is_table : TruthTable → Bool
is_table rows =
    has_few_ports rows.ports
    && (nat_lt rows.ok (2 ^ (2 ^ rows.ports)) && (nat_lt rows.bad (2 ^ (2 ^ rows.ports)) && is_cost rows.cost))
