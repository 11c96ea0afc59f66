use Rattle.std.proofs.Common.{arith}
use Rattle.component_lang.specs.inner.Views.{library_in}
use Rattle.component_lang.proofs.NameLists.{position-keys}
use Rattle.component_lang.proofs.Named.{kind_named-split}
use Rattle.component_lang.proofs.kinds.Library.kind_named.Goals as goal

pub returns-in-Some-get_index_of : goal.returns-in-Some-get_index_of
returns-in-Some-get_index_of c =
    let type = position-keys c.args.name.now c.args.self.now.type_names.keys _ c.args.self.now.types_named c.get_index_of.ensures.index in
    grind (arith, kind_named-split (library_in c.args.self.now) c.args.name.now, type)

pub returns-in_err-place : goal.returns-in_err-place
returns-in_err-place c =
    let type = position-keys c.args.name.now c.args.self.now.type_names.keys _ c.args.self.now.types_named c.get_index_of.ensures.index in
    let block = position-keys c.args.name.now c.args.self.now.block_names.keys _ c.args.self.now.blocks_named c.get_index_of-2.ensures.index in
    grind (arith, kind_named-split (library_in c.args.self.now) c.args.name.now, type, block)

pub returns : goal.returns
returns c =
    let type = position-keys c.args.name.now c.args.self.now.type_names.keys _ c.args.self.now.types_named c.get_index_of.ensures.index in
    let block = position-keys c.args.name.now c.args.self.now.block_names.keys _ c.args.self.now.blocks_named c.get_index_of-2.ensures.index in
    grind (arith, kind_named-split (library_in c.args.self.now) c.args.name.now, type, block)
