-- Lemmas by which the check finds the rest of what functions require and ensure.
use Rattle.device_model.proofs.WirePlaces.{length-wires, positions_differ, positions_fit}

pub ruleset sorted_places = (length-wires, positions_differ, positions_fit)
