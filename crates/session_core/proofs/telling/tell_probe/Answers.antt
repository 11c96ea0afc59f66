use Rattle.session_core.specs.inner.Desks.{on_desk}
use Rattle.std.proofs.Common.{◌≡◌, ◌∙◌, ◌∷◌, [], ℕ, List, Option, Some, Result, map, codes, true, false, refl, ap, sym, subst, arith}
use Rattle.text_rules.specs.Names.{Name}
use Rattle.text_rules.specs.Tokens.{spaced}
use Rattle.std.specs.Option.{option_map_or}
use Rattle.device_model.specs.Devices.{place_of}
use Rattle.script_lang.specs.Script.{Probe}
use Rattle.session_rules.specs.declared.refusal.Refusal.TheVariants.{NoWire}
use Rattle.session_rules.specs.Refusals.{refusal_row, error_words}
use Rattle.session_rules.specs.Items.{line}
use Rattle.session_rules.specs.Replies.{probe_line, if_any, told, inconsistent, count_text}
use Rattle.session_rules.specs.Spelling.{Replies}
use Rattle.session_rules.proofs.Spellings.{replies_one}
use Rattle.session_core.specs.inner.Desks.{OnDesk, asked_case, agreeing, least_seen}
use Rattle.session_core.proofs.Questions.{if_any-none, if_any-some}
use Rattle.session_core.proofs.telling.tell_probe.Goals as goal

-- the answer about a wire's name, by its place
told_at : {T E : Type 0} (desk : OnDesk) (s name : Name) (place : Option ℕ) (before after : Option (List ℕ)) (result : Result T E) → place ≡ place_of name desk.system.wires
    → (let system = desk.system in Replies before after result (map line
    (option_map_or (λ wire. if_any s (agreeing desk) (probe_line system s (asked_case desk) name wire ∷ [])) place ((s ∷ error_words (refusal_row NoWire)) ∷ []))))
    → Replies before after result (map line (told desk.system s (asked_case desk) (Probe name)))
told_at desk s name place before after result same reply = grind arith

pub returns-then-not-is_consistent-clause-reply : goal.returns-then-not-is_consistent-clause-reply
returns-then-not-is_consistent-clause-reply g c =
    let old = (on_desk g.E.Engine.about c.args.desk.now) in
    let system = old.system in
    let s = c.args.session.now in
    let name = c.args.name.now in
    told_at old s name (Some c.in-Some.wire) _ _ _ c.in-Some.ensures
    (subst (λ (lines : List (List (List ℕ))). Replies (g.O.Sink.got c.args.out.now) (g.O.Sink.got c.put_line.new.out) c.put_line.result (map line lines))
    (sym (if_any-none system.costs s (agreeing old) (probe_line system s (asked_case old) name c.in-Some.wire ∷ []) c.if-not-is_consistent.ensures.some))
    (replies_one _ _ _ (line (inconsistent s)) _ refl c.put_line.ensures.bytes))

pub returns-clause-reply : goal.returns-clause-reply
returns-clause-reply g c =
    let old = (on_desk g.E.Engine.about c.args.desk.now) in
    let system = old.system in
    let s = c.args.session.now in
    let name = c.args.name.now in
    let wire = c.in-Some.wire in
    let same = c.is_consistent.ensures.same in
    let zero = c.probe-zero.ensures.zero ∙ ap (λ (d : OnDesk). least_seen d wire false) same in
    let one = c.probe-zero.ensures.one ∙ ap (λ (d : OnDesk). least_seen d wire true) same in
    told_at old s name (Some wire) _ _ _ c.in-Some.ensures
    (subst (λ (lines : List (List (List ℕ))). Replies (g.O.Sink.got c.args.out.now) (g.O.Sink.got c.put_probe.new.out) c.put_probe.result (map line lines))
    (sym (if_any-some system.costs s (agreeing old) (probe_line system s (asked_case old) name wire ∷ []) c.if-not-is_consistent.ensures.some))
    (replies_one _ _ _ (line (probe_line system s (asked_case old) name wire)) _
    (λ i. spaced (s ∷ codes "probe" ∷ name ∷ count_text (zero i) ∷ count_text (one i) ∷ []))
    c.put_probe.ensures.text))
