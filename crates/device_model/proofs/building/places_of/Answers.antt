use Rattle.std.proofs.Common.{rules}
use Rattle.std.proofs.lemmas.List.{length-set}
use Rattle.device_model.proofs.Steps.{places_more}
use Rattle.device_model.proofs.building.places_of.Goals as goal

pub loop-place-preserved : goal.loop-place-preserved
loop-place-preserved c = search (rules, length-set, places_more, c.loop-place.invariant, c.loop-place.invariant.0, c.requires.within, c.requires.distinct)
