use Rattle.smooth_nnf.proofs.writing.write_least.Given as goal

-- the counter of the blank ledger
abbrev pub ghosts-write_fresh : goal.ghosts-write_fresh
ghosts-write_fresh g a = record { name = a.blank.name; parts = a.blank.parts }
