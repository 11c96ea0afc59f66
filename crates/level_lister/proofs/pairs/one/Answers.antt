use Rattle.state_rules.proofs.WordBits.{one_bit}
use Rattle.level_lister.proofs.pairs.one.Goals as goal

pub returns-then-number-lt-BITS : goal.returns-then-number-lt-BITS
returns-then-number-lt-BITS c n h = one_bit 32 c.args.number n c.if-number-lt-BITS.true
