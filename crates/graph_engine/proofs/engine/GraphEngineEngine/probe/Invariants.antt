use Rattle.graph_engine.proofs.engine.GraphEngineEngine.probe.Given as goal

-- the counter of the blank ledger
abbrev pub ghosts-probe_one : goal.ghosts-probe_one
ghosts-probe_one a = record { name = a.blank.name; parts = a.blank.parts }
