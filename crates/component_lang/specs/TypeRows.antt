-- The rows that the lines of a type allow, and the cost of a failure.
use Rattle.std.specs.Prelude.{ℕ, ◌+◌, ◌-◌, ◌^◌, Bool, ◌&&◌, ◌||◌, List, map, length, ◌==◌, unwrap_or, if◌then◌else◌}
use Rattle.std.specs.List.{list_all}
use Rattle.state_rules.specs.Bits.{row_number, has_bit}
use Rattle.component_lang.specs.declared.design.Shape.{Shape}
use Rattle.component_lang.specs.Kinds.{OpenType}

-- whether a word is a character 0 or 1 for each port
abbrev pub is_row : ℕ → List ℕ → Bool
is_row ports word = (length word == ports) && list_all (λ b. (b == 48) || (b == 49)) word

-- the number of the row in which port i has character i
abbrev pub row_in : List ℕ → ℕ
row_in word = row_number (map (λ b. b == 49) word)

-- the set `rows` with `row` added
abbrev pub with_row : ℕ → ℕ → ℕ
with_row rows row = if has_bit rows row then rows else rows + 2 ^ row

-- the type after its last line
abbrev pub shape_of : OpenType → Shape
shape_of open_type = record {
  name = open_type.name;
  table = record {
    ports = open_type.ports;
    ok = open_type.ok;
    bad = unwrap_or open_type.bad (2 ^ (2 ^ open_type.ports) - 1);
    cost = unwrap_or open_type.cost 1;
  };
}
