-- Lemmas with which the check proves the rest of the contracts.
use Rattle.session_core.proofs.FedBytes.{breaks_feed, carries_last, fed_feed}
use Rattle.session_core.proofs.Lines.{kept-full, kept-room}
use Rattle.session_core.proofs.NamedParts.{is_among-nowhere, marked_all}
use Rattle.session_core.proofs.OneMove.{obeys_refusal}
use Rattle.session_core.proofs.Questions.{lines-next, unseen-one}
use Rattle.session_core.proofs.RefusedLines.{refused_stays}
use Rattle.session_core.proofs.SessionMoves.{lists_all, lists_none}
use Rattle.session_core.proofs.ShownService.{holds_more, known-there, place-within}
use Rattle.session_core.proofs.Told.{lines_broken, said_more}
use Rattle.session_rules.proofs.Spellings.{replies_one, writes_none}
use Rattle.std.proofs.lemmas.Bool.{and_left}
use Rattle.std.proofs.lemmas.Bool.Decides.{nat_tests}
use Rattle.std.proofs.lemmas.Nat.{mul-le}

pub ruleset marked_parts = (and_left, is_among-nowhere, marked_all)

pub ruleset kept_bytes = (kept-full, kept-room)

pub ruleset listed_moves = (lists_all, lists_none)

pub ruleset written_lines = (lines-next, lines_broken, place-within, replies_one, said_more, unseen-one, writes_none)

pub ruleset refused_lines = (mul-le, refused_stays)

pub ruleset fed_bytes = (breaks_feed, carries_last, fed_feed)

pub ruleset open_sessions = (holds_more, known-there, nat_tests, obeys_refusal)

pub ruleset nothing_written = (writes_none)
