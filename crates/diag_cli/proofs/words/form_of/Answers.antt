use Rattle.std.proofs.Common.{◌-◌, length, take, drop, sym, ◌∙◌, map, string_bytes}
use Rattle.diag_cli.specs.Words.{form_by_words}
use Rattle.diag_cli.proofs.WordLemmas.{form_after, meant_within}
use Rattle.diag_cli.proofs.words.form_of.Goals as goal

pub returns-clause-form : goal.returns-clause-form
returns-clause-form c =
    let words = c.args.words.now in
    c.form_by_words.ensures
    ∙ ((λ k. form_by_words (c.as_str.ensures.value k) (c.as_str-2.ensures.value k) (map string_bytes (take (length words - 2) (drop 2 words))))
    ∙ sym (form_after string_bytes words c.command-item.result c.next-item.result c.in-len2-up.len_at_least c.command-item.is c.next-item.is))

pub returns-clause-limits : goal.returns-clause-limits
returns-clause-limits c = meant_within c.form_by_words.result (map string_bytes c.args.words.now) (returns-clause-form c)
