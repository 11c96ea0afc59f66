use Rattle.std.proofs.Common.{◌≡◌, ◌+◌, ◌<◌, None, [], ◌∷◌, length, ap, arith, length-append}
use Rattle.std.specs.Prelude.{option_map, IfSome}
use Rattle.std.proofs.lemmas.Option.{slice_get-get_or}
use Rattle.dnnf_compiler.specs.inner.Meeting.{IsUsable}
use Rattle.dnnf_compiler.proofs.MadeNodes.{adds_then}
use Rattle.dnnf_compiler.proofs.WayNodes.{usable_grows, choices_more}
use Rattle.dnnf_compiler.proofs.maker.Maker.make_place.Goals as goal
use Rattle.dnnf_compiler.proofs.maker.Maker.make_place.Goals.{After-get-in-loop-list}

low : (c : After-get-in-loop-list) → c.loop-list.list < length c.args.forks.now.zero.ways
low c = omega (arith, c.loop-list-test.true, c.len-list-end.ensures)

low_one : (c : After-get-in-loop-list) → c.loop-list.list < length c.args.forks.now.one.ways
low_one c = omega (arith, low c, c.requires.long)

zero_usable : (c : After-get-in-loop-list) → IfSome (option_map (λ numbers. numbers.now) c.get.result) (IsUsable c.args.self.now.store.nodes c.args.var c.args.below.now)
zero_usable c = rw c.get.ensures (c.requires.zeros c.loop-list.list None (low c))

one_usable : (c : After-get-in-loop-list) → IfSome (option_map (λ numbers. numbers.now) c.get-in-loop-list.result) (IsUsable c.args.self.now.store.nodes c.args.var c.args.below.now)
one_usable c = rw c.get-in-loop-list.ensures (c.requires.ones c.loop-list.list None (low_one c))

pub choose-requires-clause-zero : goal.choose-requires-clause-zero
choose-requires-clause-zero c =
    usable_grows _ _ c.args.var c.args.below.now (option_map (λ numbers. numbers.now) c.get.result) c.loop-list.invariant.adds.grows (zero_usable (goal.at.choose-requires-clause-zero c).After-get-in-loop-list)

pub choose-requires-clause-one : goal.choose-requires-clause-one
choose-requires-clause-one c =
    usable_grows _ _ c.args.var c.args.below.now (option_map (λ numbers. numbers.now) c.get-in-loop-list.result) c.loop-list.invariant.adds.grows (one_usable (goal.at.choose-requires-clause-one c).After-get-in-loop-list)

pub loop-list-preserved : goal.loop-list-preserved
loop-list-preserved c =
    let d = (goal.at.loop-list-preserved c).After-get-in-loop-list in
    let j = c.loop-list.list in
    let long = c.loop-list.invariant.long in
    let more : length c.push.new.self.items ≡ length c.loop-list.nodes.items + 1 = omega (arith, ap length c.in_ok-push.ensures.items, length-append c.loop-list.nodes.items (c.in_ok-node.node ∷ [])) in
    record {
      adds = rw more (adds_then _ _ _ _ _ _ _ _ _ c.loop-list.invariant.adds c.in_ok-node.ensures.adds (omega arith) (omega arith));
      long = omega (arith, more, c.loop-list.invariant.long);
      right = rw c.in_ok-push.ensures.items (choices_more _ _ _ _ _ _ _ _ _ _ _ _ _ (zero_usable d) (one_usable d) (rw (long, c.get.ensures) (slice_get-get_or c.args.forks.now.zero.ways j None (low d)))
          (rw (long, c.get-in-loop-list.ensures) (slice_get-get_or c.args.forks.now.one.ways j None (low_one d))) c.loop-list.invariant.adds c.in_ok-node.ensures c.loop-list.invariant.right);
    }
