use Rattle.std.proofs.Common.{◌≡◌, drop}
use Rattle.diag_edge.specs.InMemory.{held_in, named_files}
use Rattle.diag_edge.proofs.mem_shelf.place_of.Given as goal

-- the name is at no place before this one
abbrev pub invariant-loop-place : goal.invariant-loop-place
invariant-loop-place l = held_in (named_files (drop l.place l.files)) l.name ≡ held_in (named_files l.files) l.name
