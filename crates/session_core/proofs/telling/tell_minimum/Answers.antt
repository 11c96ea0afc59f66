use Rattle.session_core.specs.inner.Desks.{on_desk}
use Rattle.std.proofs.Common.{◌∙◌, ◌∷◌, [], ℕ, List, ap, subst, arith}
use Rattle.conditioner.specs.Evidence.{bits_of}
use Rattle.session_rules.specs.Items.{line}
use Rattle.session_rules.specs.Spelling.{Replies}
use Rattle.session_rules.proofs.Spellings.{replies_one}
use Rattle.session_core.specs.inner.Desks.{OnDesk, agreeing}
use Rattle.session_core.specs.inner.Texts.{min_text}
use Rattle.session_core.proofs.Minimum.{min_line-is}
use Rattle.session_core.proofs.telling.tell_minimum.Goals as goal

pub returns-clause-reply : goal.returns-clause-reply
returns-clause-reply g c =
    let old = (on_desk g.E.Engine.about c.args.desk.now) in
    let system = old.system in
    let s = c.args.session.now in
    let state = bits_of (on_desk g.E.Engine.about c.first-fewest.new.self).state in
    let fewest = c.first-fewest.result in
    let names = c.parts.ensures.names ∙ ap (λ (d : OnDesk). d.system.parts) c.first-fewest.ensures.stays in
    subst (λ (words : List (List ℕ)). Replies (g.O.Sink.got c.args.out.now) (g.O.Sink.got c.put_min.new.out) c.put_min.result (line words ∷ []))
    (min_line-is system s (agreeing old) state fewest c.first-fewest.ensures.least c.first-fewest.ensures.first)
    (replies_one _ _ _ (line (min_text s system.parts fewest state)) _
    (grind arith) c.put_min.ensures.text)
