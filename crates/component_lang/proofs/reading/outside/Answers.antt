use Rattle.std.proofs.Common.{sym, ◌∙◌, arith}
use Rattle.text_rules.specs.Tokens.{tokens_left}
use Rattle.component_lang.specs.inner.NameSets.{names_in}
use Rattle.component_lang.specs.inner.Views.{library_in}
use Rattle.component_lang.proofs.LineForms.{block_line-ports, outside-block}
use Rattle.component_lang.proofs.reading.outside.Goals as goal

pub returns-in_err-ports : goal.returns-in_err-ports
returns-in_err-ports c =
    let form = outside-block (library_in c.args.library.now) c.args.word.now c.in-Some.name.now (tokens_left c.args.words) (tokens_left c.next.new.self) c.in-Some.ensures.steps (sym c.spells-else-spells.ensures ∙ c.if-spells-2.true) in
    rw form (grind (arith, c.in_err-ports.ensures))

pub returns-in_ok-ports : goal.returns-in_ok-ports
returns-in_ok-ports c =
    let form = outside-block (library_in c.args.library.now) c.args.word.now c.in-Some.name.now (tokens_left c.args.words) (tokens_left c.next.new.self) c.in-Some.ensures.steps (sym c.spells-else-spells.ensures ∙ c.if-spells-2.true) in
    let made = block_line-ports (library_in c.args.library.now) c.in-Some.name.now (tokens_left c.next.new.self) (names_in c.in_ok-ports.ports) c.in_ok-ports.ensures in cc
