-- Lemmas by which the check finds the rest of what functions ensure.
use Rattle.nnf_text.proofs.LineTexts.{and-spaced, or-spaced}
use Rattle.nnf_text.proofs.ReadingBack.{IsList-from, graph_text-is_neat, graph_text-read}

pub ruleset node_lines = (and-spaced, or-spaced)

pub ruleset read_back = (IsList-from, graph_text-is_neat, graph_text-read)
