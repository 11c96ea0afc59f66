use Rattle.std.proofs.Common.{◌∙◌, [], append-nil}
use Rattle.conditioner.specs.Evidence.{bits_of}
use Rattle.diag_edge.proofs.Added.{grown_more, part_more, put_all, put_part}
use Rattle.session_rules.specs.Replies.{faulty_names}
use Rattle.session_core.proofs.Texts.{line_pieces}
use Rattle.session_core.proofs.replies.put_faulty.Goals as goal

pub returns-in_err-add_front-clause-text : goal.returns-in_err-add_front-clause-text
returns-in_err-add_front-clause-text g c =
    put_part _ _ _ c.new-chunk.result _ _ _ c.from_residual.ensures.0 c.new-chunk.ensures
    (line_pieces c.args.session.now c.args.words.now (faulty_names c.args.parts.now (bits_of c.args.state.now))) c.in_err-add_front.ensures.bytes

pub returns-in_err-add_back-clause-text : goal.returns-in_err-add_back-clause-text
returns-in_err-add_back-clause-text g c =
    put_part _ _ _ c.new-chunk.result _ [] _ c.from_residual-in_err-add_back.ensures.0 c.new-chunk.ensures
    (append-nil _ ∙ line_pieces c.args.session.now c.args.words.now (faulty_names c.args.parts.now (bits_of c.args.state.now)))
    (part_more _ _ _ _ _ _ _ c.in_ok-add_front.ensures.bytes c.in_err-add_back.ensures.bytes)

pub returns-clause-text : goal.returns-clause-text
returns-clause-text g c =
    put_all _ _ _ c.new-chunk.result _ _ _ _ c.new-chunk.ensures
    (line_pieces c.args.session.now c.args.words.now (faulty_names c.args.parts.now (bits_of c.args.state.now)))
    (grown_more _ _ _ _ _ _ _ _ c.in_ok-add_front.ensures.bytes c.in_ok-add_back.ensures.bytes) c.put.ensures.bytes
