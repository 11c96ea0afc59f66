use Rattle.std.proofs.Common.{◌≡◌, ◌∙◌, sym, get_or, rules}
use Rattle.bench_reader.proofs.ParsedTokens.{one_byte, listed_behind_comma}
use Rattle.bench_reader.proofs.statement.are_listed.Goals as goal

pub loop-tokens-preserved : goal.loop-tokens-preserved
loop-tokens-preserved c =
    let mark = c.in-Some-eq44.field-0.now in
    let comma : get_or mark 0 0 ≡ 44 = search rules in
    c.loop-tokens.invariant
    ∙ listed_behind_comma c.loop-tokens.word.now mark _ _ _ _ (sym c.has_no_mark.ensures ∙ c.loop-tokens-test.true) c.in-Some-eq44.ensures.steps
    (one_byte mark 44 c.in-Some-eq44.len_at_least c.in-Some-eq44.len_below comma) c.in-Some.ensures.steps
