use Rattle.std.proofs.Common.{[], ◌∷◌, refl, arith}
use Rattle.forest_states.proofs.WordBits.{byte-bit}
use Rattle.forest_states.proofs.bit_list.BitList.push.Goals as goal

pub put-requires-clause-row : goal.put-requires-clause-row
put-requires-clause-row c = (c.args.bit ∷ [], (refl, omega (arith, c.from.ensures, byte-bit c.args.bit)))
