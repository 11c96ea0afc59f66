use Rattle.session_core.specs.inner.Desks.{on_desk}
use Rattle.std.proofs.Common.{◌∙◌, ◌∷◌, ◌++◌, ◌<◌, [], ℕ, Bool, List, map, length, refl, ap, sym, subst, arith}
use Rattle.text_rules.specs.Names.{Name}
use Rattle.session_rules.specs.Items.{line}
use Rattle.session_rules.specs.Replies.{probe_lines, end_line, inconsistent}
use Rattle.session_rules.specs.Spelling.{Replies}
use Rattle.session_rules.proofs.Spellings.{replies_one}
use Rattle.session_core.specs.inner.Desks.{OnDesk, asked_case, agreeing, least_seen}
use Rattle.session_core.proofs.Told.{lines_then}
use Rattle.session_core.proofs.Questions.{if_any-none}
use Rattle.session_core.proofs.probing.tell_probes.Goals as goal

-- the lines of the wires on a desk
abbrev lines_on : OnDesk → Name → List (List (List ℕ))
lines_on desk s = let system = desk.system in probe_lines system s (asked_case desk) 0 system.wires

pub returns-then-not-probe_all-clause-reply : goal.returns-then-not-probe_all-clause-reply
returns-then-not-probe_all-clause-reply g c =
    let old = (on_desk g.E.Engine.about c.args.desk.now) in
    let s = c.args.session.now in
    subst (λ (ls : List (List (List ℕ))). Replies (g.O.Sink.got c.args.out.now) (g.O.Sink.got c.put_line.new.out) c.put_line.result (map line ls))
    (sym (if_any-none old.system.costs s (agreeing old) (lines_on old s ++ end_line s ∷ []) c.if-not-probe_all.ensures.some))
    (replies_one _ _ _ (line (inconsistent s)) _ refl c.put_line.ensures.bytes)

pub put_probes-requires : goal.put_probes-requires
put_probes-requires g c = λ (wire : ℕ) (bit : Bool) (h : wire < length (on_desk g.E.Engine.about c.probe_all.new.self).system.wires).
    let stays = c.probe_all.ensures.stays in
    c.probe_all.ensures.probed wire bit (subst (λ (d : OnDesk). wire < length d.system.wires) stays h)
    ∙ sym (ap (λ (d : OnDesk). least_seen d wire bit) stays)

pub returns-clause-reply : goal.returns-clause-reply
returns-clause-reply g c =
    let old = (on_desk g.E.Engine.about c.args.desk.now) in
    let s = c.args.session.now in
    let lines = ap (λ (d : OnDesk). lines_on d s) c.probe_all.ensures.stays in
    subst (λ (ls : List (List (List ℕ))). Replies (g.O.Sink.got c.args.out.now) (g.O.Sink.got c.put_line-2.new.out) c.put_line-2.result (map line ls))
    (grind arith)
    (lines_then _ _ _ _ (lines_on old s) (end_line s)
    (grind arith)
    (replies_one _ _ _ (line (end_line s)) _ refl c.put_line-2.ensures.bytes))
