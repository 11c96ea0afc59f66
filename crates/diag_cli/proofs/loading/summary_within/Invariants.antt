use Rattle.diag_cli.proofs.loading.summary_within.Given as goal

abbrev pub ghosts-summary_by : goal.ghosts-summary_by
ghosts-summary_by a = record { name = a.blank.name; parts = a.blank.parts }
