-- Words of a line that must be names.
use Rattle.std.specs.Prelude.{ℕ, Bool, not, ◌&&◌, List, ◌∷◌, ◌++◌, Option, Result, Ok, Err, if◌then◌else◌}
use Rattle.std.specs.List.{list_any, list_all}
use Rattle.text_rules.specs.Names.{Name, same_name, is_among}
use Rattle.indexmap.specs.IndexSet.{insert_key}
use Rattle.component_lang.specs.declared.fault.LangFault.{LangFault}
use Rattle.component_lang.specs.declared.fault.LangFault.TheVariants.{Name as NoName, Twice}
use Rattle.component_lang.specs.Designs.{is_plain_name, are_distinct}
use Rattle.component_lang.specs.Kinds.{Reader}
use Rattle.component_lang.specs.DesignLines.{is_new, places_in}

-- `names` with `name` added, unless it is there, and whether it is new
abbrev pub with_name : List Name → Name → Result (List Name × Bool) LangFault
with_name names name = if is_plain_name name then Ok (insert_key same_name names name, not (is_among names name)) else Err NoName

-- `above` with `names` after it
abbrev pub with_names : List Name → List Name → Result (List Name) LangFault
with_names above names = if list_all is_plain_name names then (if are_distinct names && not (list_any (is_among above) names) then Ok (above ++ names) else Err Twice) else Err NoName

-- the places of `names` among `wires`, if all are there; all of `words` must be names
abbrev pub places_among : List Name → List Name → List Name → Result (Option (List ℕ)) LangFault
places_among words wires names = if list_all is_plain_name words then Ok (places_in wires names) else Err NoName

-- the ports of a new type or block of this name
abbrev pub new_ports : Reader → Name → List Name → Result (List Name) LangFault
new_ports reader name ports = if list_all is_plain_name (name ∷ ports) then (if is_new reader name ports then Ok ports else Err Twice) else Err NoName
