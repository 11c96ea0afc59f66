use Rattle.session_core.specs.inner.Desks.{on_desk}
use Rattle.std.proofs.Common.{◌∷◌, [], codes, refl}
use Rattle.session_rules.specs.Items.{Plain, line}
use Rattle.session_rules.proofs.Spellings.{replies_one}
use Rattle.engines.specs.Offered.{states_text}
use Rattle.session_core.proofs.Told.{replies_then, replies_broken, writes_one, part_one}
use Rattle.session_core.proofs.asking.tell_graph.Goals as goal

pub returns-in_err-put_line-clause-reply : goal.returns-in_err-put_line-clause-reply
returns-in_err-put_line-clause-reply g c =
    let desk = (on_desk g.E.Engine.about c.args.desk.now) in
    let head = line (c.args.session.now ∷ codes "dnnf" ∷ []) in
    let text = states_text desk.system desk.known in
    replies_broken _ _ _ (head ∷ []) (Plain text ∷ []) c.from_residual.ensures.0 (part_one _ _ head _ refl c.in_err-put_line.ensures.bytes) ((text, refl), tt)

pub returns-clause-reply : goal.returns-clause-reply
returns-clause-reply g c =
    let desk = (on_desk g.E.Engine.about c.args.desk.now) in
    let head = line (c.args.session.now ∷ codes "dnnf" ∷ []) in
    let text = states_text desk.system desk.known in
    replies_then _ _ _ _ (head ∷ []) (Plain text ∷ []) (writes_one _ _ head _ refl c.in_ok-put_line.ensures.bytes)
    (replies_one _ _ _ (Plain text) _ refl c.write_states.ensures.text)
