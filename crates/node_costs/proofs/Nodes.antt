-- A fact holds of all nodes of a decomposable graph if it holds of tests that are always and never true, of literals, of either of two
-- tests, and of both of two tests that share no variable.
use Rattle.std.proofs.Common.{◌≡◌, ℕ, ◌<◌, Bool, true, false, ◌&&◌, ◌||◌, List, [], ◌∷◌, map, length, refl, sym, subst, arith, inl, inr, eqb}
use Rattle.std.specs.Prelude.{nat_lt}
use Rattle.std.specs.List.{list_any, list_all}
use Rattle.std.proofs.lemmas.Bool.{and_parts, ltb-true}
use Rattle.state_rules.specs.Assignments.{Assignment}
use Rattle.state_rules.specs.Bits.{same_bit}
use Rattle.state_rules.specs.declared.nodes.NodeKind.{NodeKind}
use Rattle.state_rules.specs.declared.nodes.NodeKind.TheVariants.{Literal, And, Or}
use Rattle.state_rules.specs.Graphs.{at_most_one, Node, Graph, node_at, truth_by, mention_by, mentions, is_true, apart_at, IsGraph}
use Rattle.state_rules.proofs.Children.{at_most_one-tail, not_both, each_below}
use Rattle.state_rules.proofs.Members.{In}
use Rattle.state_rules.proofs.NodeValues.{are_below, value_of-at}
use Rattle.state_rules.proofs.NodesFit.{fits-at, each_apart}
use Rattle.node_costs.proofs.Conditions.{Apart}
use Rattle.node_costs.proofs.Tests.{same_tests}

pub all-below : (n : ℕ) (kids : List ℕ) (k : ℕ) → are_below n kids ≡ true → In k kids → k < n
all-below n [] k all m = absurd m
all-below n (j ∷ kids) k all (inl q) = subst (λ x. x < n) (sym q) (ltb-true j n (and_parts (nat_lt j n) (are_below n kids) all).0)
all-below n (j ∷ kids) k all (inr r) = all-below n kids k (and_parts (nat_lt j n) (are_below n kids) all).1 r

-- a value fits a test and the variables of the test
module _ {D : Type 0} (literal : ℕ → Bool → D) (all_of any_of : List D → D) (Is : (Assignment → Bool) → (ℕ → Bool) → D → Type 0) where
  abbrev pub value_by : NodeKind → List D → D
  value_by (Literal positive var) values = literal var positive
  value_by And values = all_of values
  value_by Or values = any_of values

  pub record AreLaws : Type 0 where
    pub of_literal : (var : ℕ) (positive : Bool) → Is (λ a. same_bit positive (a var)) (λ v. eqb var v) (literal var positive)
    pub of_true : Is (λ a. true) (λ v. false) (all_of [])
    pub of_false : Is (λ a. false) (λ v. false) (any_of [])
    pub of_both : (t u : Assignment → Bool) (m o : ℕ → Bool) (c : D) (cs : List D) → Apart m o → Is t m c → Is u o (all_of cs) → Is (λ a. t a && u a) (λ v. m v || o v) (all_of (c ∷ cs))
    pub of_either : (t u : Assignment → Bool) (m o : ℕ → Bool) (c : D) (cs : List D) → Is t m c → Is u o (any_of cs) → Is (λ a. t a || u a) (λ v. m v || o v) (any_of (c ∷ cs))

  module _ (laws : AreLaws) where
    -- if it holds of the children, it holds of the node
    module _ (T : ℕ → Assignment → Bool) (M : ℕ → ℕ → Bool) (V : ℕ → D) where
      pub children_and : (kids : List ℕ) → ((k : ℕ) → In k kids → Is (T k) (M k) (V k)) → ((v : ℕ) → at_most_one (map (λ k. M k v) kids) ≡ true)
          → Is (λ a. list_all (λ b. b) (map (λ k. T k a) kids)) (λ v. list_any (λ b. b) (map (λ k. M k v) kids)) (all_of (map V kids))
      children_and [] are apart = laws.of_true
      children_and (k ∷ kids) are apart = laws.of_both _ _ _ _ _ _ (λ v. not_both (M k v) (map (λ j. M j v) kids) (apart v)) (are k (inl refl))
          (children_and kids (λ j m. are j (inr m)) (λ v. at_most_one-tail (M k v) (map (λ j. M j v) kids) (apart v)))

      children_or : (kids : List ℕ) → ((k : ℕ) → In k kids → Is (T k) (M k) (V k))
          → Is (λ a. list_any (λ b. b) (map (λ k. T k a) kids)) (λ v. list_any (λ b. b) (map (λ k. M k v) kids)) (any_of (map V kids))
      children_or [] are = laws.of_false
      children_or (k ∷ kids) are = laws.of_either _ _ _ _ _ _ (are k (inl refl)) (children_or kids (λ j m. are j (inr m)))

      node_is : (kind : NodeKind) (kids : List ℕ) → ((k : ℕ) → In k kids → Is (T k) (M k) (V k)) → ((v : ℕ) → apart_at (λ k. M k v) kind kids ≡ true)
          → Is (λ a. truth_by a kind (map (λ k. T k a) kids)) (λ v. mention_by v kind (map (λ k. M k v) kids)) (value_by kind (map V kids))
      node_is (Literal positive var) kids are apart = laws.of_literal var positive
      node_is And kids are apart = children_and kids are apart
      node_is Or kids are apart = children_or kids are

    -- so it holds of all nodes, whose values follow from those of their children
    pub all_nodes : (graph : Graph) → IsGraph graph → (V : ℕ → D) → ((i : ℕ) → i < length graph.nodes → V i ≡ value_by (node_at graph.nodes i).what (map V (node_at graph.nodes i).kids))
        → (k : ℕ) → k < length graph.nodes → Is (λ a. is_true graph.nodes k a) (λ v. mentions graph.nodes v k) (V k)
    all_nodes graph ok V by_children k inside = each_below (λ i. Is (λ a. is_true graph.nodes i a) (λ v. mentions graph.nodes v i) (V i)) (length graph.nodes)
        (λ i lt are.
        let node : Node = node_at graph.nodes i in
        let below = (fits-at graph.vars graph.nodes i ok.nodes.fit lt).below in
        subst (Is (λ a. is_true graph.nodes i a) (λ v. mentions graph.nodes v i)) (sym (by_children i lt))
        (same_tests (λ t m. Is t m (value_by node.what (map V node.kids))) (λ a. sym (value_of-at (truth_by a) graph.nodes i lt below)) (λ v. sym (value_of-at (mention_by v) graph.nodes i lt below))
        (node_is (λ j a. is_true graph.nodes j a) (λ j v. mentions graph.nodes v j) V node.what node.kids (λ j m. are j (all-below i node.kids j below m)) (λ v. each_apart (mentions graph.nodes v) graph.nodes i (ok.nodes.apart v) lt))))
        (length graph.nodes) (omega arith) k inside
