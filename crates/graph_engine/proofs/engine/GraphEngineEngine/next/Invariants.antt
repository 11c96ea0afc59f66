use Rattle.graph_engine.proofs.engine.GraphEngineEngine.next.Given as goal

-- the counter of the blank ledger
abbrev pub ghosts-step : goal.ghosts-step
ghosts-step a = record { name = a.blank.name; parts = a.blank.parts }
