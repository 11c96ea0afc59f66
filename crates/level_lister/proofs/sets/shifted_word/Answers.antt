use Rattle.std.proofs.Common.{arith}
use Rattle.level_lister.proofs.SetBits.{shifted_is}
use Rattle.level_lister.proofs.sets.shifted_word.Goals as goal

pub returns : goal.returns
returns c n e = shifted_is c.args.set.now c.args.i c.args.more c.in-Some.at c.word_before.result c.joined_word.result (omega (arith, c.in-Some.ensures)) c.word_before.ensures c.joined_word.ensures.below c.joined_word.ensures.above n e
