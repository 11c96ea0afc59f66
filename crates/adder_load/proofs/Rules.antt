-- Lemmas by which the check finds the rest of what functions require and ensure.
use Rattle.std.proofs.lemmas.List.{append-nil}
use Rattle.adder_load.proofs.NotedReadings.{all_noted}
use Rattle.adder_load.proofs.Texts.{adder_long}

-- what is left of pieces that are numbered
pub ruleset pieces_left = (adder_long, append-nil)

-- all readings
pub ruleset all_readings = (all_noted, append-nil)
