use Rattle.std.proofs.Common.{◌∙◌, append_assoc, codes}
use Rattle.adder_load.proofs.Texts.{last_piece}
use Rattle.adder_load.proofs.adders.add_gate.Goals as goal

pub returns : goal.returns
returns c = last_piece c.extend_from_slice-8.result c.extend_from_slice-7.new.self.items c.extend_from_slice-8.new.self.items (codes ")\n") _ c.extend_from_slice-8.ensures.items
    (λ last. last ∙ simp (
      c.in_ok-extend_from_slice-7.ensures.items,
      c.in_ok-extend_from_slice-6.ensures.items,
      c.in_ok-extend_from_slice-5.ensures.items,
      c.in_ok-extend_from_slice-4.ensures.items,
      c.in_ok-extend_from_slice-3.ensures.items,
      c.in_ok-extend_from_slice-2.ensures.items,
      c.in_ok-extend_from_slice.ensures.items,
      append_assoc,
    ))
