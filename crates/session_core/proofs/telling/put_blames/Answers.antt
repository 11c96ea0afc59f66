use Rattle.std.proofs.Common.{◌∙◌, ◌+◌, ◌<◌, ◌∷◌, [], ℕ, List, ap, ap₂, length, get_or, drop, codes, arith}
use Rattle.std.proofs.lemmas.List.{get_or_read}
use Rattle.text_rules.specs.Tokens.{spaced}
use Rattle.state_rules.specs.declared.blame.Blame.TheVariants.{Always}
use Rattle.session_rules.specs.Items.{line}
use Rattle.session_core.specs.inner.Texts.{blame_text}
use Rattle.session_core.specs.inner.Telling.{verdict_lines}
use Rattle.session_core.proofs.Told.{said_more, said_part, writes_one, part_one}
use Rattle.session_core.proofs.Questions.{verdicts-next}
use Rattle.session_core.proofs.telling.put_blames.Goals as goal

pub returns-in_err-put_blame-clause-reply : goal.returns-in_err-put_blame-clause-reply
returns-in_err-put_blame-clause-reply g c =
    let s = c.args.session.now in
    let names = c.parts-parts.result.now in
    let verdicts = c.verdicts-verdicts.result.now in
    let i = c.loop-part.part in
    let parts = c.parts-parts.ensures.names in
    let below : i < length verdicts = omega (arith, ap length c.verdicts-verdicts.ensures.verdicts, c.verdicts-verdicts.ensures.one_a_part, ap length parts) in
    let name = c.as_slice.ensures.bytes ∙ get_or_read names i c.index-parts-part.result c.loop-part-test.true c.index-parts-part.is [] in
    let word = blame_text (get_or verdicts i Always) in
    let one = s ∷ codes "blame" ∷ get_or names i [] ∷ word ∷ [] in
    let all = ap₂ (λ ns vs. verdict_lines s ns vs) parts c.verdicts-verdicts.ensures.verdicts in
    let said = c.loop-part.invariant.said in
    said_part _ _ _ _ (one ∷ []) (verdict_lines s (drop (i + 1) names) (drop (i + 1) verdicts)) _ _ c.from_residual.ensures.0
    (verdicts-next s names verdicts i Always c.loop-part-test.true below)
    (grind arith)
    (part_one _ _ (line one) _ (ap (λ (n : List ℕ). spaced (s ∷ codes "blame" ∷ n ∷ word ∷ [])) name) c.in_err-put_blame.ensures.text)

pub loop-part-preserved : goal.loop-part-preserved
loop-part-preserved g c =
    let s = c.args.session.now in
    let names = c.parts-parts.result.now in
    let verdicts = c.verdicts-verdicts.result.now in
    let i = c.loop-part.part in
    let parts = c.parts-parts.ensures.names in
    let below : i < length verdicts = omega (arith, ap length c.verdicts-verdicts.ensures.verdicts, c.verdicts-verdicts.ensures.one_a_part, ap length parts) in
    let name = c.as_slice.ensures.bytes ∙ get_or_read names i c.index-parts-part.result c.loop-part-test.true c.index-parts-part.is [] in
    let word = blame_text (get_or verdicts i Always) in
    let one = s ∷ codes "blame" ∷ get_or names i [] ∷ word ∷ [] in
    record {
      said = said_more _ _ _ (one ∷ []) (verdict_lines s (drop (i + 1) names) (drop (i + 1) verdicts)) _ _
          (verdicts-next s names verdicts i Always c.loop-part-test.true below)
          c.loop-part.invariant.said
          (writes_one _ _ (line one) _ (ap (λ (n : List ℕ). spaced (s ∷ codes "blame" ∷ n ∷ word ∷ [])) name) c.in_ok-put_blame.ensures.text);
      faults = c.in_ok-put_blame.ensures.cause.stayed ∙ c.loop-part.invariant.faults;
    }
