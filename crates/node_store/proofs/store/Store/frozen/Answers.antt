use Rattle.std.proofs.Common.{◌≡◌, ◌<◌, Bool, List, length, map, ap, sym, subst}
use Rattle.state_rules.specs.Graphs.{Node}
use Rattle.node_store.specs.Stores.{Stored, IsFrozen}
use Rattle.node_store.specs.inner.Keeping.{shown}
use Rattle.node_store.specs.inner.Freezing.{AreBefore, IsBelow, IsCopied}
use Rattle.node_store.proofs.NodeCopies.{before, frozen_graph}
use Rattle.node_store.proofs.store.Store.frozen.Goals as goal

pub below-requires-clause-kids : goal.below-requires-clause-kids
below-requires-clause-kids c = subst (λ ks. AreBefore (map shown ks)) (sym c.as_slice-nodes.ensures.keys) (before c.self.inside.vars (map shown c.self.inside.nodes.keys) c.self.invariant.nodes)

pub returns-clause-ok : goal.returns-clause-ok
returns-clause-ok c =
    let keys : map shown c.as_slice-nodes.result.now ≡ map shown c.self.inside.nodes.keys = ap (map shown) c.as_slice-nodes.ensures.keys in
    let store : Stored = record { nodes = map shown c.self.inside.nodes.keys; vars = c.self.inside.vars; made = c.self.inside.made; handed = c.self.inside.handed } in
    let copied = c.in_ok-copies.ensures in
    let frozen = frozen_graph store c.args.root c.in_ok-below.below.items c.in_ok-copies.copies copied.0 c.self.invariant (subst (λ (s : Stored). c.args.root < length s.nodes) (sym c.self.view_is) c.requires)
    (subst (λ (ns : List Node). IsBelow ns c.args.root c.in_ok-below.below.items) keys c.in_ok-below.ensures)
    (subst (λ (ns : List Node). IsCopied c.self.inside.vars ns c.in_ok-below.below.items c.in_ok-copies.copies copied.0 (length c.in_ok-below.below.items)) keys
    (subst (λ (m : List Bool). IsCopied c.self.inside.vars (map shown c.as_slice-nodes.result.now) m c.in_ok-copies.copies copied.0 (length m)) c.deref.ensures.value copied.1)) in
    subst (λ (s : Stored). IsFrozen s c.args.root c.new.result) c.self.view_is (subst (IsFrozen store c.args.root) (sym c.new.ensures) frozen.0)
