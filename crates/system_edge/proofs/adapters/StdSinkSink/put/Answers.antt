use Rattle.std.proofs.Common.{◌≡◌, ◌∙◌, ◌-◌, sym, ap, subst, arith, take, drop, length, length-drop, take_all}
use Rattle.system_edge.proofs.CallSequences.{WroteTo, wrote_more, wrote_still}
use Rattle.system_edge.proofs.adapters.StdSinkSink.put.Goals as goal
use Rattle.system_edge.proofs.adapters.StdSinkSink.put.Goals.{in-Ok, in-Err}

pub loop-preserved : goal.loop-preserved
loop-preserved g c =
    let contents = g.W.Write.contents in
    let so_far = c.loop.invariant in
    let rest = c.loop.rest.now in (
      so_far.0,
      elim c.match-write.branch [
        | in-Ok w ↦
            let count = w.in-Ok.count in
            let is : c.match-write.rest.now ≡ take (length rest - count) (drop count rest) = ap (λ r. r.now) w.rest-is in
            let same : drop count rest ≡ c.match-write.rest.now = sym (is ∙ take_all _ (drop count rest) (omega (arith, length-drop count rest))) in
            subst (λ left. WroteTo (contents c.args.self.now.out) (contents c.write.new.self) c.args.bytes.now left) same
            (wrote_more _ _ _ _ _ count so_far.1 w.in-Ok.ensures.bytes)
        | in-Err w ↦
            let same : rest ≡ c.match-write.rest.now = ap (λ r. r.now) (sym w.rest-is) in
            subst (λ left. WroteTo (contents c.args.self.now.out) (contents c.write.new.self) c.args.bytes.now left) same
            (wrote_still _ _ _ _ _ so_far.1 w.in-Err.ensures.bytes)
      ],
    )
