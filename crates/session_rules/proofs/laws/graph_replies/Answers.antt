use Rattle.session_rules.proofs.GraphReplies.{fitting_replies, fitting_moves, graph_replies, graph_moves}
use Rattle.session_rules.proofs.laws.graph_replies.Goals as goal

pub returns-clause-fitting : goal.returns-clause-fitting
returns-clause-fitting c = fitting_replies

pub returns-clause-fitting_moves : goal.returns-clause-fitting_moves
returns-clause-fitting_moves c = fitting_moves

pub returns-clause-replies : goal.returns-clause-replies
returns-clause-replies c = graph_replies

pub returns-clause-moves : goal.returns-clause-moves
returns-clause-moves c = graph_moves
