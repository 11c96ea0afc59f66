use Rattle.std.proofs.Common.{arith}
use Rattle.text_rules.proofs.NameLemmas.{same_name-Decides}
use Rattle.component_lang.specs.inner.Views.{library_in}
use Rattle.component_lang.proofs.reading.in_block.Goals as goal

pub returns-in_err-with_wires : goal.returns-in_err-with_wires
returns-in_err-with_wires c = grind (arith, same_name-Decides, c.in_err-with_wires.ensures (library_in c.args.library.now))

pub returns-then-spells : goal.returns-then-spells
returns-then-spells c = grind (arith, same_name-Decides, c.in_ok-with_wires.ensures (library_in c.args.library.now))
