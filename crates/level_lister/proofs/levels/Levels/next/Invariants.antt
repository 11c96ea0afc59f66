use Rattle.level_lister.proofs.levels.Levels.next.Given as goal

-- the counter of the blank ledger
abbrev pub ghosts-next_alone : goal.ghosts-next_alone
ghosts-next_alone a = record { name = a.blank.name; parts = a.blank.parts }
