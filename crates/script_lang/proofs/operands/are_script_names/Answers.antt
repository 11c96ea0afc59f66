use Rattle.std.proofs.Common.{ap, rules, tests}
use Rattle.std.proofs.lemmas.Iterator.Search.{all_from_yields_List}
use Rattle.std.proofs.lemmas.Iterator.Consumers.{YieldsList-from_first}
use Rattle.text_rules.specs.Tokens.{Uncut, tokens, words}
use Rattle.script_lang.specs.Script.{is_script_name}
use Rattle.script_lang.proofs.operands.are_script_names.Goals as goal

pub returns : goal.returns
returns c =
    let each = YieldsList-from_first (λ token. token.now) (λ (s : Uncut). tokens s.marks s.text) (words c.args.text.now) (ap (λ (s : Uncut). tokens s.marks s.text) c.words.ensures) in
    all_from_yields_List is_script_name c.all.new.self _ c.all.result c.all.ensures.ran each (λ x b q k. search (rules, tests))
