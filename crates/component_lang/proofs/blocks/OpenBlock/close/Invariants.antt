use Rattle.std.proofs.Common.{◌≡◌, ◌++◌, map, true, Bor}
use Rattle.std.specs.List.{list_all}
use Rattle.text_rules.specs.Names.{Name}
use Rattle.component_lang.specs.Designs.{is_plain_name}
use Rattle.component_lang.specs.inner.NameSets.{names_in}
use Rattle.component_lang.proofs.blocks.OpenBlock.close.Given as goal

abbrev pub invariant-loop-wire : goal.invariant-loop-wire
invariant-loop-wire l = record {
  can_next : goal.iterator-loop-wire.can_next l.wire-iterator;
  is_finite : goal.iterator-loop-wire.is_finite l.wire-iterator;
  plain : list_all is_plain_name (map (λ (name : Bor Name). name.now) l.wire-iterator) ≡ true;
  done : names_in l.fn.self.wires ≡ l.wires.items ++ map (λ (name : Bor Name). name.now) l.wire-iterator;
}
