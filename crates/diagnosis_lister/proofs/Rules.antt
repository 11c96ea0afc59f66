-- Lemmas by which the check finds the rest of what functions require and ensure.
use Rattle.diagnosis_lister.proofs.OpenMarks.{length-marked, written-bits}
use Rattle.diagnosis_lister.proofs.Points.{Follows-all}

-- the point that marks say, as it is followed
pub ruleset followed_points = (Follows-all, length-marked)

-- a state that is read from evidence
pub ruleset states_read = (written-bits)
