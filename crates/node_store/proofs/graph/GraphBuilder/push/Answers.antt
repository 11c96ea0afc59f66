use Rattle.std.proofs.Common.{◌≡◌, ◌++◌, ◌∷◌, [], true, ap, arith, subst, sym, length, length-append}
use Rattle.state_rules.specs.Graphs.{Graph, Node, apart_at, mentions, AreNodes, node_fits}
use Rattle.state_rules.proofs.NodesFit.{AreNodes-push}
use Rattle.node_store.proofs.graph.GraphBuilder.push.Goals as goal

pub invariant_of-self-2 : goal.invariant_of-self-2
invariant_of-self-2 c =
    let node : Node = record { what = c.args.kind; kids = c.args.kids.now } in
    let longer : c.push.new.self ≡ c.self.inside.nodes ++ node ∷ [] = c.in_ok-push.ensures.ok in
    let nodes : c.args.self.now.nodes ≡ c.self.inside.nodes = ap (λ (g : Graph). g.nodes) (sym c.self.view_is) in (
      subst (λ ns. AreNodes c.self.inside.vars ns) (sym longer) (AreNodes-push c.self.inside.vars c.self.inside.nodes node c.self.invariant.0
          (subst (λ (g : Graph). node_fits g.vars (length g.nodes) node ≡ true) (sym c.self.view_is) c.requires.fits)
          (λ v. subst (λ (g : Graph). apart_at (mentions g.nodes v) node.what node.kids ≡ true) (sym c.self.view_is) (c.requires.apart v))),
      omega (arith, ap length longer, length-append c.self.inside.nodes (node ∷ []), ap length nodes, c.requires.few),
    )
