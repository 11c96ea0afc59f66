use Rattle.std.proofs.Common.{◌≡◌, ◌-◌, false, length, get_or, take, drop, rules}
use Rattle.std.proofs.lemmas.List.{take_rest}
use Rattle.text_rules.specs.Tokens.{is_blank}
use Rattle.text_rules.proofs.TokenLemmas.{tokens-skip, tokens-all_blank, tokens-word_first, token_behind_blanks}
use Rattle.script_lang.proofs.WordLemmas.{first_from}
use Rattle.script_lang.proofs.cutting.split_word.Goals as goal

pub returns-in_err-start : goal.returns-in_err-start
returns-in_err-start c = rw c.from_residual.ensures (tokens-all_blank false c.args.text.now (search rules))

-- Blanks are dropped, and the word ends before the next blank.
pub returns : goal.returns
returns c =
    let text = c.args.text.now in
    let start = c.in_ok-start.start in
    let left = take (length text - start) (drop start text) in
    let end = c.unwrap_or-end.result in
    let begins : is_blank (get_or text start 0) ≡ false = search rules in
    let same = first_from text start in
    let skip = tokens-skip false text start (search rules) in
    let first = tokens-word_first false left end (search rules) (rw same begins) (search rules) (search rules) (search rules) (search rules) in
    token_behind_blanks false text left _ _ start end (take_rest text start) skip first c.split_at.ensures.front c.split_at.ensures.back
