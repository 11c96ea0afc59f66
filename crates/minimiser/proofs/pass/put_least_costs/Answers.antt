use Rattle.std.proofs.Common.{◌<◌, length, ◌∙◌, arith}
use Rattle.std.proofs.lemmas.List.{length-take-le}
use Rattle.std.proofs.lemmas.Option.{slice_get_within}
use Rattle.minimiser.proofs.OnePass.{walked, fits_here, node_fits_room, goes_on, written}
use Rattle.minimiser.proofs.pass.put_least_costs.Goals as goal

pub node_value-value-requires-clause-fits : goal.node_value-value-requires-clause-fits
node_value-value-requires-clause-fits g c =
    let at = walked c.args.graph.now c.loop-node.at c.in-Some.node c.loop-node.node-iterator c.next.new.self c.loop-node.invariant.0 c.in-Some.ensures.steps in
    let inside : c.loop-node.at < length c.args.graph.now.nodes = slice_get_within c.args.graph.now.nodes c.loop-node.at c.in-Some.node at.there in
    let front = length-take-le c.loop-node.at c.loop-node.values (omega (arith, inside, c.loop-node.auto.values, c.requires.room)) in
    fits_here _ _ _ _ _ c.walk-node-items.ensures.valid at.there c.requires.long front

pub node_value-value-requires-clause-small : goal.node_value-value-requires-clause-small
node_value-value-requires-clause-small g c and =
    let at = walked c.args.graph.now c.loop-node.at c.in-Some.node c.loop-node.node-iterator c.next.new.self c.loop-node.invariant.0 c.in-Some.ensures.steps in
    node_fits_room _ _ _ _ _ _ _ c.walk-node-items.ensures.valid c.requires.total at.there c.loop-node.invariant.1

pub loop-node-preserved : goal.loop-node-preserved
loop-node-preserved g c =
    let at = walked c.args.graph.now c.loop-node.at c.in-Some.node c.loop-node.node-iterator c.next.new.self c.loop-node.invariant.0 c.in-Some.ensures.steps in
    let inside : c.loop-node.at < length c.args.graph.now.nodes = slice_get_within c.args.graph.now.nodes c.loop-node.at c.in-Some.node at.there in (
      at.behind,
      written c.loop-node.values c.loop-node.at c.node_value-value.result (omega (arith, inside, c.loop-node.auto.values, c.requires.room))
          ∙ goes_on _ _ _ _ _ _ _ at.there c.loop-node.invariant.1 c.node_value-value.ensures,
    )
