use Rattle.std.proofs.Common.{true, false, arith}
use Rattle.component_lang.specs.declared.design.Used.{Used}
use Rattle.component_lang.specs.Designs.{used_names}
use Rattle.component_lang.proofs.NameLists.{inserted-among, keys-more}
use Rattle.component_lang.proofs.blocks.OpenBlock.with_part.Goals as goal

pub returns-in_err-places : goal.returns-in_err-places
returns-in_err-places c = grind (arith, c.in_err-places.ensures)

pub returns-then-not-branch : goal.returns-then-not-branch
returns-then-not-branch c =
    let new = inserted-among c.args.self.part_names.keys c.args.name (used_names c.args.self.parts.items) {old = true} c.args.self.parts_named c.in_ok-insert.ensures.added c.if-not-branch.true in
    grind (arith, new, c.in_ok-places.ensures)

pub returns-in_err-part : goal.returns-in_err-part
returns-in_err-part c =
    let new = inserted-among c.args.self.part_names.keys c.args.name (used_names c.args.self.parts.items) {old = false} c.args.self.parts_named c.in_ok-insert.ensures.added c.if-not-branch.false in
    grind (arith, new, c.in_ok-places.ensures, c.in_err-part.ensures)

pub invariant_of-self-clause-parts_named : goal.invariant_of-self-clause-parts_named
invariant_of-self-clause-parts_named c =
    let new = inserted-among c.args.self.part_names.keys c.args.name (used_names c.args.self.parts.items) {old = false} c.args.self.parts_named c.in_ok-insert.ensures.added c.if-not-branch.false in
    grind (arith, new, keys-more (λ (u : Used). u.name) c.args.self.part_names.keys c.insert.new.self.keys c.args.name, c.args.self.parts_named, c.in_ok-insert.ensures.keys, c.in_ok-part.ensures, c.in_ok-push.ensures.items)

pub returns : goal.returns
returns c =
    let new = inserted-among c.args.self.part_names.keys c.args.name (used_names c.args.self.parts.items) {old = false} c.args.self.parts_named c.in_ok-insert.ensures.added c.if-not-branch.false in
    grind (arith, new, c.in_ok-places.ensures, c.in_ok-part.ensures, c.in_ok-push.ensures.items)
