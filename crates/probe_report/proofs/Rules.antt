-- Lemmas by which the check finds the rest of what functions require and ensure.
use Rattle.probe_report.proofs.Bits.{found-bit}

-- the bit of a variable in a word
pub ruleset variable_bits = (found-bit)
