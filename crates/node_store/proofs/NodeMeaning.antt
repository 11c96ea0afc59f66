-- The meaning of a node that a store made.
use Rattle.std.proofs.Common.{◌≡◌, ℕ, List, [], ◌∷◌, ◌++◌, length, Some, refl, ap, sym, ◌∙◌, subst, inl, inr}
use Rattle.std.specs.Prelude.{slice_get}
use Rattle.state_rules.proofs.Lists.{slice_get-last}
use Rattle.state_rules.specs.declared.nodes.NodeKind.{NodeKind}
use Rattle.state_rules.specs.Graphs.{Node, truth_by, mention_by, is_true, mentions, AreNodes}
use Rattle.state_rules.proofs.NodeValues.{value_of-get, value_of-last, value_of-before}
use Rattle.state_rules.proofs.NodesFit.{fits-get}
use Rattle.node_store.specs.Stores.{EachOnce, AddsAtMost, Means}

-- A node at its number has its meaning if the others stay.
pub Means-from : (vars : ℕ) (old new : List Node) (kind : NodeKind) (kids : List ℕ) (number : ℕ) → AreNodes vars new → EachOnce new → slice_get new number ≡ Some (record { what = kind; kids = kids })
    → AddsAtMost old (record { what = kind; kids = kids }) new → Means old new kind kids number
Means-from vars old new kind kids number are once there (inl e) =
    let below = (fits-get vars new number (record { what = kind; kids = kids }) are.fit there).below in
    subst (λ ns. Means ns new kind kids number) e (record {
      truth = λ a. value_of-get (truth_by a) new number _ there below;
      variables = λ v. value_of-get (mention_by v) new number _ there below;
      true_before = λ k a h. refl;
      variables_before = λ k v h. refl;
    })
Means-from vars old new kind kids number are once there (inr e) =
    let node : Node = record { what = kind; kids = kids } in
    let last : number ≡ length old = once number (length old) node there (ap (λ ns. slice_get ns (length old)) e ∙ slice_get-last old node) in
    subst (λ ns. Means old ns kind kids number) (sym e) (record {
      truth = λ a. ap (λ k. is_true (old ++ node ∷ []) k a) last ∙ value_of-last (truth_by a) old node;
      variables = λ v. ap (mentions (old ++ node ∷ []) v) last ∙ value_of-last (mention_by v) old node;
      true_before = λ k a h. value_of-before (truth_by a) old node k h;
      variables_before = λ k v h. value_of-before (mention_by v) old node k h;
    })
