use Rattle.std.proofs.Common.{◌≡◌, ◌<◌, ◌+◌, ◌++◌, ◌∷◌, [], All, Some, length, map, ap, sym, ◌∙◌, subst, arith}
use Rattle.std.specs.Prelude.{slice_get, slice_index}
use Rattle.state_rules.specs.Graphs.{Node}
use Rattle.node_store.specs.inner.Keeping.{shown}
use Rattle.node_store.specs.inner.Freezing.{IsCopied}
use Rattle.node_store.proofs.NodeCopies.{before, left_out, taken}
use Rattle.node_store.proofs.NodesBelow.{shown_at, the_at, length-shown}
use Rattle.node_store.proofs.store.copied.Goals as goal
use Rattle.node_store.proofs.store.copied.Goals.{After-deref}

pub loop-at-preserved-then-not-below-at : goal.loop-at-preserved-then-not-below-at
loop-at-preserved-then-not-below-at c =
    let one = the_at (map shown c.args.nodes.now) c.loop-at.at (omega (arith, length-shown c.args.nodes.now, c.requires.long)) in
    subst (λ ns. IsCopied c.args.vars (map shown c.args.nodes.now) c.args.below.now c.loop-at.copies ns (c.loop-at.at + 1)) (sym c.in_ok-push.ensures.items)
    (left_out c.args.vars (map shown c.args.nodes.now) c.args.below.now c.loop-at.copies c.loop-at.numbers.items c.loop-at.at c.loop-at.invariant c.requires.nodes c.if-not-below-at.true one.0 one.1)

there : (c : After-deref) → slice_get (map shown c.args.nodes.now) c.loop-at.at ≡ Some (shown c.index-nodes-at.result)
there c = shown_at c.args.nodes.now c.loop-at.at c.index-nodes-at.result (omega (arith, length-shown c.args.nodes.now, c.requires.long)) c.index-nodes-at.is

pub renumber-requires : goal.renumber-requires
renumber-requires c =
    let lt = before c.args.vars (map shown c.args.nodes.now) c.requires.nodes c.loop-at.at (shown c.index-nodes-at.result) (there (goal.at.renumber-requires c).After-deref) in
    subst (All (λ k. k < length c.deref.result.now)) (sym c.as_slice.ensures) (λ k d h. omega (arith, lt k d h, c.loop-at.invariant.long, ap length c.deref.ensures.value))

pub loop-at-preserved : goal.loop-at-preserved
loop-at-preserved c =
    let node : Node = shown c.index-nodes-at.result in
    let kids = c.deref-in-loop-at.result.now in
    subst (λ cs. IsCopied c.args.vars (map shown c.args.nodes.now) c.args.below.now cs c.push-in-loop-at.new.self.items (c.loop-at.at + 1)) (sym c.in_ok-push-3.ensures.ok)
    (subst (λ ns. IsCopied c.args.vars (map shown c.args.nodes.now) c.args.below.now (c.loop-at.copies ++ record { what = node.what; kids = kids } ∷ []) ns (c.loop-at.at + 1)) (sym (c.in_ok-push-2.ensures.items ∙ (λ j. c.loop-at.numbers.items ++ c.len.ensures j ∷ [])))
    (taken c.args.vars (map shown c.args.nodes.now) c.args.below.now c.loop-at.copies c.loop-at.numbers.items c.loop-at.at c.loop-at.invariant node kids c.requires.nodes c.requires.closed (there (goal.at.loop-at-preserved c).After-deref) c.if-not-below-at.false
    (c.deref-in-loop-at.ensures.value ∙ c.in_ok-renumber.ensures ∙ (λ j. map (slice_index (c.deref.ensures.value j)) (c.as_slice.ensures j)))))
