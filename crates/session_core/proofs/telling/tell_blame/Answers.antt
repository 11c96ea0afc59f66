use Rattle.session_core.specs.inner.Desks.{on_desk, OnDesk, agreeing, diagnoses_asked, least_asked, blame_asked}
use Rattle.std.proofs.Common.{◌≡◌, ◌∙◌, ◌∷◌, ◌++◌, ◌+◌, ◌<◌, [], ℕ, List, Bool, true, not, Some, map, length, refl, sym, ap, subst, arith}
use Rattle.std.specs.Prelude.{slice_get, is_some}
use Rattle.text_rules.specs.Names.{Name}
use Rattle.state_rules.specs.Bits.{bit_in}
use Rattle.state_rules.specs.declared.blame.Blame.{Blame}
use Rattle.state_rules.specs.Verdicts.{verdict}
use Rattle.session_rules.specs.Items.{line}
use Rattle.session_rules.specs.Replies.{blame_lines, end_line, inconsistent}
use Rattle.session_rules.specs.Spelling.{Replies}
use Rattle.session_rules.proofs.Spellings.{replies_one}
use Rattle.session_core.specs.inner.Telling.{verdict_lines}
use Rattle.session_core.proofs.Told.{lines_then, lines_broken}
use Rattle.state_rules.proofs.Diagnoses.{has_diagnosis}
use Rattle.session_core.proofs.Questions.{if_diagnosis-none, if_diagnosis-some, blame_lines-are}
use Rattle.session_core.proofs.telling.tell_blame.Goals as goal

pub returns-then-not-is_consistent-clause-reply : goal.returns-then-not-is_consistent-clause-reply
returns-then-not-is_consistent-clause-reply g c =
    let old = (on_desk g.E.Engine.about c.args.desk.now) in
    let system = old.system in
    let s = c.args.session.now in
    let ds = diagnoses_asked old in
    subst (λ (lines : List (List (List ℕ))). Replies (g.O.Sink.got c.args.out.now) (g.O.Sink.got c.put_line.new.out) c.put_line.result (map line lines))
    (sym (if_diagnosis-none system.costs s (agreeing old) (blame_lines s ds 0 system.parts ++ end_line s ∷ []) c.if-not-is_consistent.ensures.some))
    (replies_one _ _ _ (line (inconsistent s)) _ refl c.put_line.ensures.bytes)

-- the lines by verdicts are those by diagnoses
told_lines : (desk : OnDesk) (s : Name) (verdicts : List Blame) → length verdicts ≡ length desk.system.parts → true ≡ is_some (least_asked desk)
    → ((part : ℕ) → part < length desk.system.parts → slice_get verdicts part ≡ Some (blame_asked desk part))
    → verdict_lines s desk.system.parts verdicts ≡ blame_lines s (diagnoses_asked desk) 0 desk.system.parts
told_lines desk s verdicts long some each =
    let system = desk.system in
    let ds : List (List Bool) = diagnoses_asked desk in
    blame_lines-are s ds 0 system.parts verdicts (has_diagnosis system.costs (agreeing desk) some) long
    (λ i h.
    let z : i ≡ 0 + i = omega arith in
    each i h ∙ ap (λ n. Some (verdict (map (λ (state : List Bool). not (bit_in state n)) ds))) z)

-- the lines that a desk answers are those
blame_said : (old middle new : OnDesk) (s : Name) → middle ≡ old → new ≡ record middle { verdicts = new.verdicts }
    → length new.verdicts ≡ length new.system.parts → true ≡ is_some (least_asked old)
    → ((part : ℕ) → part < length middle.system.parts → slice_get new.verdicts part ≡ Some (blame_asked middle part))
    → verdict_lines s new.system.parts new.verdicts ≡ blame_lines s (diagnoses_asked old) 0 old.system.parts
blame_said old middle new s same stays long some each =
    let parts : new.system.parts ≡ old.system.parts = grind arith in
    ap (λ (ns : List Name). verdict_lines s ns new.verdicts) parts
    ∙ told_lines old s new.verdicts (long ∙ ap length parts) some
    (grind arith)

pub returns-in_err-put_blames-clause-reply : goal.returns-in_err-put_blames-clause-reply
returns-in_err-put_blames-clause-reply g c =
    let old = (on_desk g.E.Engine.about c.args.desk.now) in
    let system = old.system in
    let s = c.args.session.now in
    let ds = diagnoses_asked old in
    let some = c.if-not-is_consistent.ensures.some in
    let lines = blame_said old (on_desk g.E.Engine.about c.is_consistent.new.self) (on_desk g.E.Engine.about c.blame.new.self) s c.is_consistent.ensures.same c.blame.ensures.stays c.blame.ensures.long some c.blame.ensures.blame in
    subst (λ (lines : List (List (List ℕ))). Replies (g.O.Sink.got c.args.out.now) (g.O.Sink.got c.put_blames.new.out) c.from_residual.result (map line lines))
    (sym (if_diagnosis-some system.costs s (agreeing old) (blame_lines s ds 0 system.parts ++ end_line s ∷ []) some))
    (grind (arith, lines_broken))

pub returns-clause-reply : goal.returns-clause-reply
returns-clause-reply g c =
    let old = (on_desk g.E.Engine.about c.args.desk.now) in
    let system = old.system in
    let s = c.args.session.now in
    let ds = diagnoses_asked old in
    let some = c.if-not-is_consistent.ensures.some in
    let lines = blame_said old (on_desk g.E.Engine.about c.is_consistent.new.self) (on_desk g.E.Engine.about c.blame.new.self) s c.is_consistent.ensures.same c.blame.ensures.stays c.blame.ensures.long some c.blame.ensures.blame in
    subst (λ (lines : List (List (List ℕ))). Replies (g.O.Sink.got c.args.out.now) (g.O.Sink.got c.put_line-2.new.out) c.put_line-2.result (map line lines))
    (sym (if_diagnosis-some system.costs s (agreeing old) (blame_lines s ds 0 system.parts ++ end_line s ∷ []) some))
    (lines_then _ _ _ _ (blame_lines s ds 0 system.parts) (end_line s)
    (grind arith)
    (replies_one _ _ _ (line (end_line s)) _ refl c.put_line-2.ensures.bytes))
