use Rattle.graph_engine.proofs.engine.GraphEngineEngine.probe_all.Given as goal

-- the counter of the blank ledger
abbrev pub ghosts-probe_each : goal.ghosts-probe_each
ghosts-probe_each a = record { name = a.blank.name; parts = a.blank.parts }
