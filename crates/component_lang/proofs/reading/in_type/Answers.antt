use Rattle.std.proofs.Common.{arith}
use Rattle.std.proofs.lemmas.Bool.{and_parts}
use Rattle.text_rules.proofs.NameLemmas.{same_name-Decides}
use Rattle.component_lang.specs.inner.Views.{library_in}
use Rattle.component_lang.proofs.reading.in_type.Goals as goal

pub close-requires-clause-rows : goal.close-requires-clause-rows
close-requires-clause-rows c = (and_parts _ _ c.requires.sound).1

pub returns-in_err-with_ok : goal.returns-in_err-with_ok
returns-in_err-with_ok c = grind (arith, same_name-Decides, c.in_err-with_ok.ensures (library_in c.args.library.now))

pub returns-in_err-with_bad : goal.returns-in_err-with_bad
returns-in_err-with_bad c = grind (arith, same_name-Decides, c.in_err-with_bad.ensures (library_in c.args.library.now))

pub returns-in_err-with_cost : goal.returns-in_err-with_cost
returns-in_err-with_cost c = grind (arith, same_name-Decides, c.in_err-with_cost.ensures (library_in c.args.library.now))

pub returns-in_ok-with_ok : goal.returns-in_ok-with_ok
returns-in_ok-with_ok c = grind (arith, same_name-Decides, c.in_ok-with_ok.ensures (library_in c.args.library.now))

pub returns-in_ok-with_bad : goal.returns-in_ok-with_bad
returns-in_ok-with_bad c = grind (arith, same_name-Decides, c.in_ok-with_bad.ensures (library_in c.args.library.now))

pub returns-in_ok-with_cost : goal.returns-in_ok-with_cost
returns-in_ok-with_cost c = grind (arith, same_name-Decides, c.in_ok-with_cost.ensures (library_in c.args.library.now))
