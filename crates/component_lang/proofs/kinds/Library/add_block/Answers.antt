use Rattle.std.proofs.Common.{◌≡◌, ◌<◌, ◌++◌, ◌∷◌, [], vec_len, ap, ◌∙◌, arith}
use Rattle.std.specs.Prelude.{if◌then◌else◌, vec_capacity}
use Rattle.component_lang.specs.declared.design.Block.{Block}
use Rattle.component_lang.specs.inner.Views.{library_in}
use Rattle.component_lang.proofs.NameLists.{keys-more}
use Rattle.component_lang.proofs.Named.{free_names}
use Rattle.component_lang.proofs.kinds.Library.add_block.Goals as goal

pub invariant_of-self-2-clause-blocks_named : goal.invariant_of-self-2-clause-blocks_named
invariant_of-self-2-clause-blocks_named c =
    let room : vec_len c.reserve.new.self < vec_capacity c.reserve.new.self = omega (arith, c.in_ok-reserve.ensures.ok) in
    let behind : c.push.new.self.items ≡ c.args.self.now.blocks.items ++ c.args.block ∷ [] =
    c.push.ensures.items ∙ ap (λ b. if b then c.reserve.new.self.items ++ c.args.block ∷ [] else c.reserve.new.self.items) (c.push.ensures.succeeds room) ∙ ap (λ xs. xs ++ c.args.block ∷ []) c.in_ok-reserve.ensures.items in
    let free = free_names (library_in c.args.self.now) c.args.name.now c.requires.free in
    keys-more (λ (x : Block). x.name) c.args.self.now.block_names.keys c.insert.new.self.keys c.args.name c.args.self.now.blocks.items c.push.new.self.items c.args.block
    c.args.self.now.blocks_named c.in_ok-insert.ensures.keys free.no_block c.requires.named behind
