-- A store with one more node.
use Rattle.std.proofs.Common.{◌≡◌, ℕ, ◌+◌, ◌<◌, true, List, [], ◌∷◌, length, ap, sym, ◌∙◌, subst, arith, inl, inr, length-append}
use Rattle.std.specs.Prelude.{slice_get}
use Rattle.std.proofs.lemmas.List.Sums.{sum_by-append}
use Rattle.state_rules.specs.declared.nodes.TheConstants.{CHILD_LIMIT}
use Rattle.state_rules.specs.Graphs.{Node, literal_node, apart_at, mentions, AreNodes, node_fits}
use Rattle.state_rules.proofs.NodesFit.{AreNodes-push}
use Rattle.state_rules.proofs.Lists.{slice_get-before}
use Rattle.node_store.specs.declared.store.TheConstants.{MADE_LIMIT}
use Rattle.node_store.specs.Stores.{Stored, IsStore, EachOnce, AddsAtMost, literal_place}

pub IsStore-add : (old shown : Stored) → old ≡ shown → (nodes : List Node) (node : Node) → IsStore old → AddsAtMost old.nodes node nodes → EachOnce nodes → node_fits shown.vars (length shown.nodes) node ≡ true
    → ((v : ℕ) → apart_at (mentions shown.nodes v) node.what node.kids ≡ true) → shown.made < MADE_LIMIT → length node.kids < CHILD_LIMIT
    → IsStore (record { nodes = nodes; vars = old.vars; made = old.made + 1; handed = old.handed + length node.kids })
IsStore-add old shown shows nodes node is (inl e) once fits apart few few_children = grind arith
IsStore-add old shown shows nodes node is (inr e) once fits apart few few_children = record {
  nodes = subst (AreNodes old.vars) (sym e) (AreNodes-push old.vars old.nodes node is.nodes (rw shows fits) (λ v. rw shows (apart v)));
  once = once;
  literals = λ v positive some within. ap (λ ns. slice_get ns (literal_place v positive)) e ∙ slice_get-before old.nodes (node ∷ []) (literal_place v positive) (literal_node v positive) (is.literals v positive some within);
  few = omega (arith, ap length e, length-append old.nodes (node ∷ []), is.few);
  few_edges = grind (arith, sum_by-append);
  few_made = omega (arith, ap (λ (s : Stored). s.made) shows);
  few_handed = omega (arith, is.few_handed);
  few_vars = is.few_vars;
}
