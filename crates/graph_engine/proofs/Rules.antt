-- Lemmas with which the check proves the rest of the contracts.
use Rattle.graph_engine.proofs.Asked.{diagnoses-asked, fits_after, least-asked, same_about, seen-asked, states-asked}
use Rattle.graph_engine.proofs.NextStates.{level_next}
use Rattle.graph_engine.proofs.Offered.{is_offered}
use Rattle.graph_engine.proofs.Rooms.{carved_so, is_held, released_runs, released_words, run_long}
use Rattle.graph_engine.proofs.Written.{written_back}
use Rattle.std.proofs.Math.Nat.{mul-le-mul_right}

pub ruleset after_pass = (diagnoses-asked, fits_after, same_about, seen-asked, written_back)

pub ruleset lent_room = (carved_so, is_held, least-asked, level_next, released_runs, released_words, run_long, seen-asked, states-asked, same_about, written_back)

pub ruleset offered = (is_offered)

pub ruleset products_within = (mul-le-mul_right)
