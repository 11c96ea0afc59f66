use Rattle.std.proofs.Common.{◌≡◌, ◌<◌, ◌++◌, ◌∷◌, length, ap, ◌∙◌, subst}
use Rattle.std.specs.Prelude.{option_map, IfSome}
use Rattle.std.proofs.lemmas.Option.{slice_get_within}
use Rattle.dnnf_compiler.specs.inner.Meeting.{taken, IsUsable}
use Rattle.dnnf_compiler.proofs.WayNodes.{children_meetable, take_false, take_some}
use Rattle.dnnf_compiler.proofs.maker.Maker.take.Goals as goal
use Rattle.dnnf_compiler.proofs.maker.Maker.take.Goals.{After-as_slice}

its_children : (c : After-as_slice) → c.as_slice.result.now ≡ c.literal-literal.result ∷ taken c.args.below.now c.in-Some.numbers.now
its_children c = c.as_slice.ensures ∙ c.in_ok-kids.ensures ∙ ap (λ ks. ks ++ taken c.args.below.now c.in-Some.numbers.now) c.in_ok-from_slice.ensures.ok

usable : (c : After-as_slice) → IsUsable c.args.self.now.store.nodes c.args.var c.args.below.now c.in-Some.numbers.now
usable c = subst (λ way. IfSome (option_map (λ numbers. numbers.now) way) (IsUsable c.args.self.now.store.nodes c.args.var c.args.below.now)) c.in-Some.is c.requires.way

literal_in : (c : After-as_slice) → c.literal-literal.result < length c.args.self.now.store.nodes
literal_in c = slice_get_within c.args.self.now.store.nodes c.literal-literal.result _ c.literal-literal.ensures.there

pub meet-requires : goal.meet-requires
meet-requires c =
    let d = (goal.at.meet-requires c).After-as_slice in
    rw (its_children d) (children_meetable _ _ _ _ _ _ (usable d) (literal_in d) c.literal-literal.ensures.truth c.literal-literal.ensures.variables c.requires.maker c.requires.few)

pub returns-then-node-self : goal.returns-then-node-self
returns-then-node-self c =
    let d = (goal.at.returns-then-node-self c).After-as_slice in
    rw c.in-Some.is (take_false _ _ _ _ _ _ (usable d) (literal_in d) c.literal-literal.ensures.truth c.literal-literal.ensures.variables _ _ (rw (its_children d) at c.in_ok-node.ensures) c.if-node-self.true)

pub returns : goal.returns
returns c =
    let d = (goal.at.returns c).After-as_slice in
    rw c.in-Some.is (take_some _ _ _ _ _ _ (usable d) (literal_in d) c.literal-literal.ensures.truth c.literal-literal.ensures.variables _ _ (rw (its_children d) at c.in_ok-node.ensures) c.if-node-self.false)
