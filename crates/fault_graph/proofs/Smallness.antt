-- A graph whose places are all needed, and all of nodes that cost something, is small.
use Rattle.std.proofs.Common.{◌≡◌, ℕ, zero, suc, ◌+◌, ◌-◌, ◌<◌, ◌≤◌, Bool, false, List, [], ◌∷◌, map, length, get_or, Option, Some, refl, sym, ◌∙◌, subst, arith}
use Rattle.std.specs.Prelude.{IsSomeAnd}
use Rattle.std.proofs.lemmas.List.{get_or_past}
use Rattle.std.proofs.lemmas.Option.{slice_get-get_or}
use Rattle.state_rules.proofs.Members.{In-at}
use Rattle.state_rules.specs.declared.nodes.NodeKind.{NodeKind}
use Rattle.state_rules.specs.declared.nodes.NodeKind.TheVariants.{Literal}
use Rattle.state_rules.specs.Graphs.{Graph, true_node, node_at, IsGraph}
use Rattle.conditioner.specs.Evidence.{known_of, leaf_of}
use Rattle.minimiser.specs.Costs.{part_cost, known_at, literal_cost, cost_by, least_at}
use Rattle.minimiser.proofs.Derivations.{costs-at}
use Rattle.fault_graph.specs.Small.{HasParent, SaysFaulty, Joins, IsSmall}
use Rattle.fault_graph.proofs.PlaceCosts.{place-cost}
use Rattle.fault_graph.proofs.SmallPlaces.{IsFrom, AreFrom}

-- the variable of a literal that costs something is a part's
paid : (costs : List ℕ) (var c : ℕ) → part_cost costs var ≡ c → 0 < c → var ≤ length costs
paid costs var c e dear = grind (arith, get_or_past)

-- a literal that costs something says that an open part is faulty
says : (evidence costs : List ℕ) (var c : ℕ) (positive : Bool) → literal_cost (leaf_of positive (known_at evidence var)) (part_cost costs var) positive ≡ Some c → 0 < c
    → SaysFaulty evidence (length costs) (Literal positive var)
says evidence costs var c positive e dear = by_word (get_or evidence (var - 1) 0) refl positive e where
  by_word : (w : ℕ) → get_or evidence (var - 1) 0 ≡ w → (b : Bool) → literal_cost (leaf_of b (known_of w)) (part_cost costs var) b ≡ Some c → (b ≡ false) × (var ≤ length costs) × (get_or evidence (var - 1) 0 ≡ 0)
  by_word zero z b q = grind (arith, paid costs var c)
  by_word (suc zero) z b q = grind arith
  by_word (suc (suc n)) z b q = grind arith

module _ (graph small : Graph) (evidence costs : List ℕ) (ok : IsGraph graph) (sound : IsGraph small) where
  cost-is : (c p : ℕ) → IsFrom graph evidence costs small.nodes c p → least_at small evidence costs p ≡ Some c
  cost-is c p is = place-cost graph small evidence costs ok sound is.node p c is.is is.place.stands

  pub small-from : AreFrom graph evidence costs small.nodes → ((p : ℕ) → p + 1 < length small.nodes → HasParent small.nodes p)
      → ((p : ℕ) → p + 1 < length small.nodes → Joins (node_at small.nodes p).what (length (node_at small.nodes p).kids)) → IsSmall evidence costs small
  small-from from needed joins = record {
    dear = λ p h. let x = from.each p (omega arith) in subst (λ (o : Option ℕ). IsSomeAnd o (λ c. 0 < c)) (sym (cost-is x.0 p x.1)) x.1.dear;
    needed = needed;
    joins = joins;
    cheap = λ p h o k d lt.
        let q = get_or (node_at small.nodes p).kids k d in
        let x = from.ors p q h o (In-at (node_at small.nodes p).kids k d lt) in
        cost-is x.0 q x.2 ∙ sym (cost-is x.0 p x.1);
    faulty = λ p h.
        let x = from.each p h in
        let node = node_at small.nodes p in
        by_kind x.0 x.1.dear node.what node.kids (sym (costs-at small evidence costs sound p node (slice_get-get_or small.nodes p true_node h)) ∙ cost-is x.0 p x.1);
  } where
    by_kind : (c : ℕ) → 0 < c → (what : NodeKind) (kids : List ℕ) → cost_by (known_at evidence) (part_cost costs) what (map (least_at small evidence costs) kids) ≡ Some c → SaysFaulty evidence (length costs) what
    by_kind c dear (Literal positive var) kids e = says evidence costs var c positive e dear
    by_kind c dear what kids e = tt

pub small-true : (evidence costs : List ℕ) (vars : ℕ) → IsSmall evidence costs (record { nodes = true_node ∷ []; vars = vars })
small-true evidence costs vars = grind arith
