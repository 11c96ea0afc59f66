use Rattle.std.proofs.Common.{◌≡◌, ◌-◌, ◌<◌, [], ◌∷◌, ◌++◌, length, get_or, Some, refl, ap, sym, ◌∙◌, subst, arith}
use Rattle.std.proofs.lemmas.Option.{slice_get-get_or}
use Rattle.state_rules.specs.Graphs.{true_node}
use Rattle.fault_graph.specs.inner.Filled.{Filled}
use Rattle.fault_graph.proofs.Roots.{IsWhole, free-root}
use Rattle.fault_graph.proofs.SmallGraphs.{has-room, built-past, built-added, root-added}
use Rattle.fault_graph.proofs.minimising.minimise.Goals as goal
use Rattle.fault_graph.proofs.minimising.minimise.Goals.{then-places-at-eq-MARKED, else-places-at-eq-MARKED}

pub add-place-requires-clause-child_room : goal.add-place-requires-clause-child_room
add-place-requires-clause-child_room g c =
    let room = has-room c.args.graph.now c.args.evidence.now c.args.costs.now c.least.new.values c.mark.new.places c.loop-at.places c.loop-at.nodes.nodes c.loop-at.at (omega (arith, c.len-root.ensures.len)) c.loop-at.invariant.built in
    omega (arith, room.1, ap length c.kids.ensures.kids, ap (λ (f : Filled). f.child_room) c.loop-at.invariant.stays, c.requires.child_room)

pub loop-at-preserved : goal.loop-at-preserved
loop-at-preserved g c =
    let graph = c.args.graph.now in
    let lt : c.loop-at.at < length graph.nodes = omega (arith, c.len-root.ensures.len) in
    let room : c.loop-at.at < length c.loop-at.places = omega (arith, lt, c.loop-at.auto.places, c.mark.auto.places, c.requires.places) in
    elim c.if-places-at-eq-MARKED.branch [
      | then-places-at-eq-MARKED w ↦ record {
        built = rw (w.nodes-is, w.places-is)
            (built-added graph c.args.evidence.now c.args.costs.now c.len-root.ensures.valid c.requires.long c.requires.parts c.requires.total c.in_ok-cost.cost (sym c.in_ok-cost.ensures.least)
            c.least.new.values c.least.ensures.values c.mark.new.places c.mark.ensures c.loop-at.places c.loop-at.nodes.nodes c.loop-at.at lt c.loop-at.invariant.built w.if-places-at-eq-MARKED.true
            w.what.result w.kids.result.now
            (slice_get-get_or graph.nodes c.loop-at.at true_node lt ∙ (λ i. Some (record { what = sym w.what.ensures.what i; kids = sym w.kids.ensures.kids i })))
            w.add-place.new.self.nodes w.add-place.result room (omega (arith, c.len-root.ensures.len)) (w.add-place.ensures.adds refl));
        stays = grind arith;
      }
      | else-places-at-eq-MARKED w ↦ record {
        built = rw (w.nodes-is, w.places-is)
            (built-past graph c.args.evidence.now c.args.costs.now c.len-root.ensures.valid c.requires.long c.requires.parts c.requires.total c.in_ok-cost.cost (sym c.in_ok-cost.ensures.least)
            c.least.new.values c.least.ensures.values c.mark.new.places c.mark.ensures c.loop-at.places c.loop-at.nodes.nodes c.loop-at.at lt c.loop-at.invariant.built
            w.if-places-at-eq-MARKED.false);
        stays = grind arith;
      }
    ]

pub returns-clause-minimised : goal.returns-clause-minimised
returns-clause-minimised g c =
    let same = rw (c.what-2.ensures.what, c.kids-2.ensures.kids, c.len-root.ensures.len) at (c.add-2.ensures.own refl) in
    let all = root-added c.args.graph.now c.args.evidence.now c.args.costs.now c.len-root.ensures.valid c.requires.long c.requires.parts c.requires.total c.in_ok-cost.cost (sym c.in_ok-cost.ensures.least)
    c.least.new.values c.least.ensures.values c.mark.new.places c.mark.ensures c.requires.dear c.loop-at.places c.loop-at.nodes.nodes c.add-2.new.self.nodes c.loop-at.at (omega (arith, c.len-root.ensures.len)) c.loop-at.invariant.built same in
    (sym c.in_ok-cost.ensures.least, all.graph_is, all.minimised, all.small)

pub returns-then-root_cost-eq0-clause-minimised : goal.returns-then-root_cost-eq0-clause-minimised
returns-then-root_cost-eq0-clause-minimised g c =
    let graph = c.args.graph.now in
    let free = subst (λ n. get_or c.least.new.values (n - 1) 0 ≡ 0) c.len-root.ensures.len c.if-root_cost-eq0.true in
    let same : c.add.new.self.nodes ≡ true_node ∷ [] = c.add.ensures.own refl ∙ ap (λ (f : Filled). f.nodes ++ true_node ∷ []) c.clear.ensures in
    let all = subst (IsWhole graph c.args.evidence.now c.args.costs.now c.len-root.ensures.valid c.requires.long c.requires.parts) (sym same)
    (free-root graph c.args.evidence.now c.args.costs.now c.len-root.ensures.valid c.requires.long c.requires.parts c.requires.total c.in_ok-cost.cost (sym c.in_ok-cost.ensures.least) c.least.new.values c.least.ensures.values c.requires.dear free) in
    (sym c.in_ok-cost.ensures.least, all.graph_is, all.minimised, all.small)
