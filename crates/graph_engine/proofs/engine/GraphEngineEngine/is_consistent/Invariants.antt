use Rattle.graph_engine.proofs.engine.GraphEngineEngine.is_consistent.Given as goal

-- the counter of the blank ledger
abbrev pub ghosts-has_states : goal.ghosts-has_states
ghosts-has_states a = record { name = a.blank.name; parts = a.blank.parts }
