use Rattle.smooth_nnf.proofs.writing.write_least_with.Given as goal

-- the counter of the blank ledger
abbrev pub ghosts-write_in : goal.ghosts-write_in
ghosts-write_in g a = record { name = a.blank.name; parts = a.blank.parts }
