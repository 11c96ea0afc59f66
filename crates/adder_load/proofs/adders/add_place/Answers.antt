use Rattle.std.proofs.Common.{◌∙◌, append_assoc}
use Rattle.std.proofs.lemmas.Result.{on_ok_weaker}
use Rattle.adder_load.proofs.adders.add_place.Goals as goal

pub returns : goal.returns
returns c =
    on_ok_weaker c.add_gate-5.result
    (λ last. last ∙ simp (
      c.in_ok-add_gate-4.ensures,
      c.in_ok-add_gate-3.ensures,
      c.in_ok-add_gate-2.ensures,
      c.in_ok-add_gate.ensures,
      c.in_ok-add_input-2.ensures,
      c.in_ok-add_input.ensures,
      c.signal-a.ensures,
      c.signal-b.ensures,
      c.signal-c.ensures,
      c.signal-x.ensures,
      c.signal-s.ensures,
      c.signal-g.ensures,
      c.signal-p.ensures,
      c.signal.ensures,
      append_assoc,
    ))
    c.add_gate-5.ensures
