use Rattle.std.proofs.Common.{◌≡◌, ◌-◌, ◌<◌, ◌++◌, suc, length, get_or, refl, ◌∙◌, arith, rules}
use Rattle.std.proofs.lemmas.Option.{slice_get_read, slice_get-get_or}
use Rattle.elimination_forests.specs.Forests.{Forest, width}
use Rattle.dnnf_compiler.specs.Along.{IsWay}
use Rattle.dnnf_compiler.proofs.WayUp.{spots_at, start, IsNext, forks_long, next_way, climb_first, IsRoot, root_is}
use Rattle.dnnf_compiler.specs.inner.Meeting.{taken}
use Rattle.dnnf_compiler.proofs.along.compile_along.Goals as goal
use Rattle.dnnf_compiler.proofs.along.compile_along.Goals.{After-index-forks-place, After-deref-2, After-as_slice}

pub loop-place-init : goal.loop-place-init
loop-place-init c = λ forest way.
    climb_first _ _ _ forest way c.vars.ensures.valid _ _ _ refl c.in_ok-maker.ensures.maker (c.in_ok-maker.ensures.vars ∙ c.vars.ensures.vars) c.in_ok-maker.ensures.counts.0 c.in_ok-maker.ensures.counts.1 c.new-stack.ensures.items

-- ---- a step

pub bounds-forks-place : goal.bounds-forks-place
bounds-forks-place c = omega (arith, c.loop-place-test.true, c.loop-place.auto.place, forks_long _ _ _ c.requires.0 c.requires.1)

pub offset_bounds-forks-place : goal.offset_bounds-forks-place
offset_bounds-forks-place c =
    let low : c.loop-place.place - 1 < length c.args.forks.now =
    omega (arith, c.loop-place-test.true, c.loop-place.auto.place, forks_long _ _ _ c.requires.0 c.requires.1) in
    search rules

next : (c : After-index-forks-place) (forest : Forest) → IsWay c.args.cnf.now c.args.steps.now c.args.forks.now forest
    → IsNext c.args.cnf.now (width forest) c.loop-place.maker c.loop-place.stack.items (get_or c.args.steps.now (c.loop-place.place - 1) (record { var = 0; trees = 0 })) c.index-forks-place.result (spots_at (start c.args.cnf.now forest) (c.loop-place.place - 1))
next c forest way =
    let e : c.loop-place.place ≡ suc (c.loop-place.place - 1) = omega (arith, c.loop-place-test.true) in
    let low : c.loop-place.place - 1 < length c.args.steps.now = omega (arith, c.loop-place-test.true, c.loop-place.auto.place) in
    next_way _ _ _ forest way c.vars.ensures.valid _ _ _ _ _ (rw e at (c.loop-place.invariant forest way)) (slice_get-get_or c.args.steps.now _ _ low)
    (slice_get_read c.args.forks.now _ _ _ refl (omega (arith, low, forks_long _ _ _ forest way)) c.index-forks-place.is)

pub make_step-requires : goal.make_step-requires
make_step-requires c =
    let n = next (goal.at.make_step-requires c).After-index-forks-place c.requires.0 c.requires.1 in
    (n.spot, n.rest, n.ready)

pub loop-place-preserved : goal.loop-place-preserved
loop-place-preserved c = λ forest way.
    let n = next (goal.at.loop-place-preserved c).After-index-forks-place forest way in
    rw c.in_ok-push.ensures.items (n.more _ _ c.in_ok-nodes.nodes (c.in_ok-nodes.ensures n.spot n.rest n.ready))

-- ---- at the root

its_root : (c : After-deref-2) (forest : Forest) → IsWay c.args.cnf.now c.args.steps.now c.args.forks.now forest → IsRoot c.args.cnf.now forest c.loop-place.maker c.in_ok-trees.trees.items c.in_ok-first.first.items
its_root c forest way =
    let e : c.loop-place.place ≡ 0 = omega (arith, c.loop-place-test.false) in
    let long : c.len-count.result ≡ length c.loop-place.stack.items = omega (arith, c.len-count.ensures, c.loop-place.stack.ok.0) in
    root_is _ _ _ forest way c.vars.ensures.valid _ _ (rw e at (c.loop-place.invariant forest way)) _ c.take_top.new.stack.items c.in_ok-trees.ensures.taken (c.in_ok-trees.ensures.count ∙ long) _ _ long
    (c.in_ok-first.ensures.items_if_clones_equal (λ y h. h))

its_children : (c : After-as_slice) → c.as_slice.result.now ≡ taken c.in_ok-trees.trees.items c.in_ok-first.first.items
its_children c = c.as_slice.ensures ∙ c.in_ok-kids.ensures ∙ (λ j. c.new-2.ensures.items j ++ taken (c.deref-2.ensures.value j) (c.deref.ensures.value j))

pub taken-requires : goal.taken-requires
taken-requires c = rw (c.deref-2.ensures.value, c.deref.ensures.value) (its_root (goal.at.taken-requires c).After-deref-2 c.requires.0 c.requires.1).held

pub meet-requires : goal.meet-requires
meet-requires c =
    let at = goal.at.meet-requires c in
    rw (its_children at.After-as_slice) (its_root at.After-deref-2 c.requires.0 c.requires.1).meetable

pub returns : goal.returns
returns c = λ forest way.
    let at = goal.at.returns c in
    (its_root at.After-deref-2 forest way).right _ _ _ (rw (its_children at.After-as_slice) at c.in_ok-root.ensures) c.in_ok-compiled.ensures.valid c.in_ok-compiled.ensures.graph c.in_ok-compiled.ensures.made
