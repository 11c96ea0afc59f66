use Rattle.std.proofs.Common.{arith}
use Rattle.component_lang.specs.declared.design.Shape.{Shape}
use Rattle.component_lang.specs.inner.Views.{library_in}
use Rattle.component_lang.proofs.NameLists.{keys-more}
use Rattle.component_lang.proofs.Named.{free_names}
use Rattle.component_lang.proofs.kinds.Library.add_type.Goals as goal

pub invariant_of-self-2-clause-types_named : goal.invariant_of-self-2-clause-types_named
invariant_of-self-2-clause-types_named c =
    let self = c.args.self.now in
    grind (arith, free_names (library_in self) c.args.name.now c.requires.free, keys-more (λ (x : Shape). x.name) self.type_names.keys c.insert.new.self.keys c.args.name, c.in_ok-insert.ensures.keys, c.in_ok-reserve.ensures.ok, c.in_ok-reserve.ensures.items, c.push.ensures.items, c.push.ensures.succeeds)
