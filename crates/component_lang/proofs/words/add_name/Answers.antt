use Rattle.std.proofs.Common.{arith}
use Rattle.text_rules.specs.Names.{same_name}
use Rattle.state_rules.proofs.Lists.{list_any-map}
use Rattle.component_lang.proofs.NameLists.{bytes, keys-insert}
use Rattle.component_lang.proofs.words.add_name.Goals as goal

pub returns : goal.returns
returns c =
    let k = c.in_ok-insert.ensures in
    grind (arith, k.keys, k.added, keys-insert c.args.names.now.keys c.args.word, list_any-map (same_name c.args.word.now) bytes c.args.names.now.keys)
