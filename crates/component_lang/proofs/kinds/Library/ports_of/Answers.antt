use Rattle.std.proofs.Common.{Bor, map, ap, arith}
use Rattle.text_rules.specs.Names.{Name}
use Rattle.text_rules.specs.Tokens.{tokens_left}
use Rattle.component_lang.specs.inner.Views.{library_in}
use Rattle.component_lang.proofs.LineForms.{ports-refused}
use Rattle.component_lang.proofs.kinds.Library.ports_of.Goals as goal

pub returns-in_err-add_names : goal.returns-in_err-add_names
returns-in_err-add_names c =
    let none = ap (map (λ (name : Bor Name). name.now)) c.new-ports.ensures.empty in
    grind (arith, none, ports-refused (library_in c.args.self.now) c.args.name.now (tokens_left c.args.words), c.in_err-add_names.ensures)
