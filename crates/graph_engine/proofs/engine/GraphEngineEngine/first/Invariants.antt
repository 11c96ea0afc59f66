use Rattle.graph_engine.proofs.engine.GraphEngineEngine.first.Given as goal

-- the counter of the blank ledger
abbrev pub ghosts-begin : goal.ghosts-begin
ghosts-begin a = record { name = a.blank.name; parts = a.blank.parts }
