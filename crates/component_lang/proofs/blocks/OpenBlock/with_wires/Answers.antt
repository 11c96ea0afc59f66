use Rattle.std.proofs.Common.{true, arith}
use Rattle.component_lang.specs.inner.NameSets.{names_in}
use Rattle.component_lang.proofs.NameLists.{more_names-first, more_names-fault}
use Rattle.component_lang.proofs.blocks.OpenBlock.with_wires.Goals as goal

pub returns-in_err-add_names : goal.returns-in_err-add_names
returns-in_err-add_names c = λ reader. grind (arith, more_names-fault, more_names-first true (names_in c.args.self.wires) c.args.first.now, c.in_ok-is_new.ensures, c.in_err-add_names.ensures)

pub returns-then-is_new : goal.returns-then-is_new
returns-then-is_new c = λ reader. grind (arith, more_names-first true (names_in c.args.self.wires) c.args.first.now, c.in_ok-is_new.ensures, c.in_ok-add_names.ensures)
