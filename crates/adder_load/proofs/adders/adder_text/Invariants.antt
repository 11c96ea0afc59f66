use Rattle.std.proofs.Common.{◌≡◌, ◌-◌, ◌++◌}
use Rattle.std.specs.List.{flat_map, range_with_len}
use Rattle.adder_load.specs.Adders.{place_lines, adder_text}
use Rattle.adder_load.proofs.adders.adder_text.Given as goal

-- the text and what is left are all of it
abbrev pub invariant-loop-place : goal.invariant-loop-place
invariant-loop-place l = l.text.items ++ flat_map place_lines (range_with_len l.place (l.places - l.place)) ≡ adder_text l.places
