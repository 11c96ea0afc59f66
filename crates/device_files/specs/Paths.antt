-- What a file is, by the ending of its path.
use Rattle.std.specs.Prelude.{Bool, ◌&&◌, ◌||◌, nat_lt, ◌-◌, ℕ, List, length, drop, codes}
use Rattle.text_rules.specs.Names.{same_name}

-- whether a path ends with `ending`, after at least one more byte
abbrev pub ends_in : List ℕ → List ℕ → Bool
ends_in ending path = nat_lt (length ending) (length path) && same_name (drop (length path - length ending) path) ending

-- whether the path is that of a netlist or a design
abbrev pub is_device_path : List ℕ → Bool
is_device_path path = ends_in (codes ".bench") path || ends_in (codes ".dev") path
