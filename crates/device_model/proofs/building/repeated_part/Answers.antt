use Rattle.std.proofs.Common.{arith, ◌+◌}
use Rattle.std.proofs.lemmas.Bool.{cases_eq}
use Rattle.std.proofs.lemmas.List.{get_or-map, length-map}
use Rattle.text_rules.proofs.NameLemmas.{same_if_equal, equal_if_same}
use Rattle.device_model.proofs.building.repeated_part.Goals as goal

pub returns-then-eq : goal.returns-then-eq
returns-then-eq c = grind (arith, length-map, get_or-map, equal_if_same)

pub loop-place-preserved : goal.loop-place-preserved
loop-place-preserved c = λ k l same. grind (arith, length-map, get_or-map, same_if_equal, cases_eq (k + 1) c.loop-place.place, c.loop-place.invariant k)
