use Rattle.node_store.proofs.MoreNodes.{IsStore-add}
use Rattle.node_store.proofs.NodeMeaning.{Means-from}
use Rattle.node_store.proofs.store.Store.add.Goals as goal

pub invariant_of-self-2 : goal.invariant_of-self-2
invariant_of-self-2 c = IsStore-add _ _ c.self.view_is _ (record { what = c.args.what; kids = c.args.kids.now }) c.self.invariant c.in_ok-place.ensures.nodes c.in_ok-place.ensures.once c.requires.fits c.requires.apart c.requires.few_made c.requires.few

pub returns-clause-valid : goal.returns-clause-valid
returns-clause-valid c = IsStore-add _ _ c.self.view_is _ (record { what = c.args.what; kids = c.args.kids.now }) c.self.invariant c.in_ok-place.ensures.nodes c.in_ok-place.ensures.once c.requires.fits c.requires.apart c.requires.few_made c.requires.few

pub returns-clause-means : goal.returns-clause-means
returns-clause-means c =
    let is = IsStore-add _ _ c.self.view_is _ (record { what = c.args.what; kids = c.args.kids.now }) c.self.invariant c.in_ok-place.ensures.nodes c.in_ok-place.ensures.once c.requires.fits c.requires.apart c.requires.few_made c.requires.few in
    rw (← c.self.view_is) (Means-from _ _ _ _ _ _ is.nodes is.once c.in_ok-place.ensures.there c.in_ok-place.ensures.nodes)
