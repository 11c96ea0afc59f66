-- What holds of each line that asks something.
use Rattle.std.specs.Prelude.{Bool, true, ◌&&◌, nat_le}
use Rattle.std.specs.List.{list_all}
use Rattle.text_rules.specs.Names.{is_short_name}
use Rattle.script_lang.specs.declared.limits.TheConstants.{COUNT_LIMIT}
use Rattle.script_lang.specs.Script.{Request, Note, Tell, Several, Levels, After, Probe, Line, Ask, is_script_name}

-- whether the names of a request are names, and its count is from 1 to a million
abbrev pub is_well_named : Request → Bool
is_well_named (Note what name known) = is_script_name name
is_well_named (Several count) = nat_le 1 count && nat_le count COUNT_LIMIT
is_well_named (Levels count) = nat_le 1 count && nat_le count COUNT_LIMIT
is_well_named (After names) = list_all is_script_name names
is_well_named (Tell (Probe wire)) = is_script_name wire
is_well_named request = true

-- the same of a line, with its session
abbrev pub is_well_asked : Line → Bool
is_well_asked (Ask session request) = is_short_name session && is_well_named request
is_well_asked line = true
