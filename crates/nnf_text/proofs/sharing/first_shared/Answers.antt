use Rattle.std.proofs.Common.{◌≡◌, ℕ, length, ◌+◌, ◌*◌, take, ap, ◌∙◌, arith}
use Rattle.nnf_text.proofs.ColumnWords.{earlier-first, take-window}
use Rattle.nnf_text.proofs.FirstShared.{FirstOf-all}
use Rattle.std.proofs.lemmas.List.{take_all, length-take, length-append, length-drop}
use Rattle.nnf_text.proofs.sharing.first_shared.Goals as goal

pub loop-pass-preserved : goal.loop-pass-preserved
loop-pass-preserved c =
    let start = 64 * c.loop-pass.pass in
    let next : 64 * (c.loop-pass.pass + 1) ≡ start + 64 = omega arith in
    record {
      found = rw (ap (λ n. take n c.in_ok-variables.variables.items) next ∙ take-window c.in_ok-variables.variables.items start c.min-end.result (omega arith) (omega arith), c.earlier-first.ensures)
          (earlier-first c.args.nodes.now _ _ c.loop-pass.first c.mark.result c.loop-pass.invariant.found (rw c.deref.ensures.value at c.mark.ensures));
      long = omega (arith, length-take {A = ℕ}, length-append {A = ℕ}, length-drop {A = ℕ}, c.mark.auto.column, ap length c.deref_mut.ensures.value, c.loop-pass.column.ok.0, c.loop-pass.invariant.long);
    }

pub returns : goal.returns
returns c = FirstOf-all c.args.vars c.args.nodes.now c.in_ok-variables.variables.items c.requires.fit c.in_ok-variables.ensures c.loop-pass.first
    (rw (take_all (64 * c.loop-pass.pass) c.in_ok-variables.variables.items (omega arith)) at c.loop-pass.invariant.found)
