use Rattle.std.proofs.Common.{◌≡◌, ◌++◌, ◌∷◌, [], length, length-append, ap, ◌∙◌, arith, inr}
use Rattle.flat_lists.specs.Flat.{pieces, EndAt}
use Rattle.node_store.specs.Flat.{nodes_of}
use Rattle.fault_graph.specs.inner.Filled.{Filled}
use Rattle.fault_graph.specs.inner.Rows.{kept_children}
use Rattle.fault_graph.proofs.AddedNodes.{sizes, filled}
use Rattle.fault_graph.proofs.small_nodes.SmallNodes.add.Goals as goal
use Rattle.fault_graph.proofs.small_nodes.SmallNodes.add.Goals.{After-self, After-put-2, else-not-own-via-then-not-own+else-len-before, else-not-own-via-else-not-own}

more : (c : After-put-2) → EndAt (length c.gather.new.all.items) 0 c.put.new.all.items
    × (nodes_of c.put-2.new.all.items (pieces c.gather.new.all.items 0 c.put.new.all.items)
    ≡ c.args.self.now.nodes ++ record { what = c.args.what; kids = kept_children c.args.values.now c.args.places.now c.args.cost c.args.kids.now } ∷ [])
more c = filled c.self.inside.kinds.items c.put-2.new.all.items c.self.inside.ends.items c.put.new.all.items c.self.inside.kids.items c.gather.new.all.items
    (kept_children c.args.values.now c.args.places.now c.args.cost c.args.kids.now) c.args.self.now.nodes c.args.what c.len-2.result c.put-2.ensures.items c.put.ensures.items c.gather.ensures.kept
    (c.len-2.ensures ∙ c.gather.new.all.ok.0) c.self.invariant.0 c.self.invariant.1 (ap (λ (f : Filled). f.nodes) c.self.view_is)

pub invariant_of-self-2 : goal.invariant_of-self-2
invariant_of-self-2 c = (omega arith, (more (goal.at.invariant_of-self-2 c).After-put-2).0, omega arith, omega arith, omega arith)

pub returns-clause-adds : goal.returns-clause-adds
returns-clause-adds c = λ kept.
    let row = kept_children c.args.values.now c.args.places.now c.args.cost c.args.kids.now in
    inr ((more (goal.at.returns-clause-adds c).After-put-2).1, grind (arith, sizes), λ (one : length row ≡ 1). grind (arith, length-append c.self.inside.kids.items row))

pub returns-clause-own : goal.returns-clause-own
returns-clause-own c = λ own. (more (goal.at.returns-clause-own c).After-put-2).1
