-- One more node, and all of them.
use Rattle.std.proofs.Common.{◌≡◌, ℕ, zero, suc, ◌+◌, ◌-◌, ◌<◌, ◌≤◌, Bool, true, cond, List, [], ◌∷◌, ◌++◌, map, length, take, drop, set, get_or, All, Option, Some, None, refl, ap, sym, ◌∙◌, arith, add-one, zero-add}
use Rattle.std.specs.Prelude.{slice_get, IfSome}
use Rattle.std.proofs.Math.ListN.{length-map}
use Rattle.std.proofs.Math.Seq.{take-length}
use Rattle.std.proofs.lemmas.List.{length-take-le, length-drop, take_all, take_more_set, map-append}
use Rattle.std.proofs.lemmas.Option.{slice_get-get_or, get_or_from_slice_get, slice_get_within}
use Rattle.state_rules.specs.Values.{values}
use Rattle.state_rules.proofs.Values.{length-values_after, values_after-append, values-at}
use Rattle.state_rules.specs.declared.nodes.NodeKind.{NodeKind}
use Rattle.state_rules.specs.declared.nodes.NodeKind.TheVariants.{Literal}
use Rattle.state_rules.specs.Graphs.{Node, Graph, mentions, true_node, node_at, node_fits, IsGraph}
use Rattle.state_rules.proofs.NodeValues.{below-each}
use Rattle.state_rules.proofs.NodesFit.{nodes_fit-at, fits-get, literal}
use Rattle.node_store.proofs.NodeCopies.{take-more}
use Rattle.conditioner.specs.Models.{least_under, total_cost}
use Rattle.minimiser.specs.Costs.{part_cost, known_at, cost_at, node_cost}
use Rattle.minimiser.specs.inner.Held.{held_cost}
use Rattle.state_rules.specs.Numbers.{cost_in}
use Rattle.minimiser.specs.Stored.{costs_to, AreLeastCosts}
use Rattle.node_costs.proofs.Totals.{total-le}
use Rattle.node_costs.proofs.Sets.{least-has}
use Rattle.minimiser.proofs.Costs.{fault}
use Rattle.minimiser.proofs.Nodes.{is_cost, cost_at-get}
use Rattle.minimiser.proofs.Held.{full_cost-is}
use Rattle.minimiser.proofs.Sums.{cost_in-some, cost_at-map}
use Rattle.minimiser.proofs.LeastOfModels.{AddHeld, least_is, part_cost-none}

-- the cost of a node under evidence
abbrev pub cost_under : List ℕ → List ℕ → Node → List (Option ℕ) → Option ℕ
cost_under evidence costs = node_cost (known_at evidence) (part_cost costs)

pub costs-step : (graph : Graph) (evidence costs : List ℕ) (i : ℕ) (n : Node) → slice_get graph.nodes i ≡ Some n
    → costs_to graph evidence costs (i + 1) ≡ costs_to graph evidence costs i ++ cost_under evidence costs n (costs_to graph evidence costs i) ∷ []
unfolding costs_to
costs-step graph evidence costs i n e = (λ j. values (cost_under evidence costs) (take-more graph.nodes i n e j))
    ∙ values_after-append (cost_under evidence costs) [] (take i graph.nodes) (n ∷ [])

fault-le : (k : Option Bool) (w : ℕ) (b m : Bool) → cond m (fault k w b) 0 ≤ w
fault-le k w b m = grind arith

-- no node costs more than all parts together
pub cost_small : (graph : Graph) (evidence costs : List ℕ) (k : ℕ) → IsGraph graph → (n : ℕ) → cost_at (values (cost_under evidence costs) graph.nodes) k ≡ Some n → n ≤ total_cost costs
cost_small graph evidence costs k ok n e =
    let is = is_cost (known_at evidence) (part_cost costs) (length costs) (part_cost-none costs) graph ok k in
    let c = least-has _ _ n is.least e in
    let m : ℕ → Bool = λ v. mentions graph.nodes v k in
    omega (arith, c.cost_is, full_cost-is costs, total-le (λ v. cond (m v) (fault (known_at evidence v) (part_cost costs v) (c.by v)) 0) (part_cost costs) (λ v. fault-le (known_at evidence v) (part_cost costs v) (c.by v) (m v)) 1 (length costs))

-- ---- what a node of a graph is

pub children_below : (graph : Graph) (i : ℕ) (n : Node) → IsGraph graph → slice_get graph.nodes i ≡ Some n → All (λ k. k < i) n.kids
children_below graph i n ok e = below-each i n.kids (fits-get graph.vars graph.nodes i n ok.nodes.fit e).below

pub the_node : (nodes : List Node) (i : ℕ) (w : NodeKind) (ks : List ℕ) → i < length nodes → w ≡ (node_at nodes i).what → ks ≡ (node_at nodes i).kids
    → slice_get nodes i ≡ Some (record { what = w; kids = ks })
the_node nodes i w ks h a b = slice_get-get_or nodes i true_node h ∙ (λ j. Some (record { what = sym a j; kids = sym b j }))

pub literal_at : (graph : Graph) (i var : ℕ) (positive : Bool) (kids : List ℕ) → IsGraph graph → slice_get graph.nodes i ≡ Some (record { what = Literal positive var; kids = kids }) → (1 ≤ var) × (var ≤ graph.vars)
literal_at graph i var positive kids ok e =
    let is = literal graph.vars var positive kids (fits-get graph.vars graph.nodes i _ ok.nodes.fit e).kind in (is.low, is.high)

-- the values of the nodes so far, and of one more
pub goes_on : (graph : Graph) (evidence costs : List ℕ) (i : ℕ) (n : Node) (values : List (Option ℕ)) (c : Option ℕ) → slice_get graph.nodes i ≡ Some n
    → values ≡ costs_to graph evidence costs i → c ≡ cost_under evidence costs n values → values ++ c ∷ [] ≡ costs_to graph evidence costs (i + 1)
goes_on graph evidence costs i n values c e v k = (λ j. v j ++ (k ∙ ap (cost_under evidence costs n) v) j ∷ []) ∙ sym (costs-step graph evidence costs i n e)

pub length-costs_to : (graph : Graph) (evidence costs : List ℕ) (i : ℕ) → i ≤ length graph.nodes → length (costs_to graph evidence costs i) ≡ i
unfolding costs_to
length-costs_to graph evidence costs i h = length-values_after (cost_under evidence costs) [] (take i graph.nodes) ∙ (let e = length-take-le i graph.nodes h in omega arith)

if_some : (o : Option ℕ) (b : ℕ) → ((n : ℕ) → o ≡ Some n → n < b) → IfSome o (λ n. n < b)
if_some o b h = grind arith

-- the cost of a node fits
pub node_fits_room : (graph : Graph) (evidence costs : List ℕ) (i most : ℕ) (n : Node) (values : List (Option ℕ)) → IsGraph graph → total_cost costs < most
    → slice_get graph.nodes i ≡ Some n → values ≡ costs_to graph evidence costs i → IfSome (cost_under evidence costs n values) (λ n. n < most)
unfolding costs_to
node_fits_room graph evidence costs i most n before ok few e v = if_some _ most (λ c q. omega (arith, few, cost_small graph evidence costs i ok c (here ∙ sym (ap (cost_under evidence costs n) v) ∙ q))) where
  here : cost_at (values (cost_under evidence costs) graph.nodes) i ≡ cost_under evidence costs n (values (cost_under evidence costs) (take i graph.nodes))
  here = cost_at-get (values (cost_under evidence costs) graph.nodes) i ∙ values-at (cost_under evidence costs) graph.nodes i true_node (slice_get_within graph.nodes i n e) None
      ∙ ap (λ m. cost_under evidence costs m (values (cost_under evidence costs) (take i graph.nodes))) (get_or_from_slice_get graph.nodes i n true_node e)

-- ---- the whole pass

-- node `n` is at place `i`, and `others` after it
pub record StandsAt (graph : Graph) (i : ℕ) (n : Node) (others : List Node) : Type 0 where
  pub there : slice_get graph.nodes i ≡ Some n
  pub behind : drop (i + 1) graph.nodes ≡ others

next_is : (nodes : List Node) (i : ℕ) (n : Node) (rest : List Node) → drop i nodes ≡ n ∷ rest → (slice_get nodes i ≡ Some n) × (drop (suc i) nodes ≡ rest)
next_is nodes zero n rest e = grind arith
next_is [] (suc i) n rest e = absurd (cc)
next_is (m ∷ nodes) (suc i) n rest e = next_is nodes i n rest e

pub walked : (graph : Graph) (i : ℕ) (n : Node) (left rest : List Node) → drop i graph.nodes ≡ left → left ≡ n ∷ rest → StandsAt graph i n rest
walked graph i n left rest d e = let is = next_is graph.nodes i n rest (d ∙ e) in record { there = is.0; behind = rw (add-one i) is.1 }

pub fits_here : (graph : Graph) (i vars before : ℕ) (n : Node) → IsGraph graph → slice_get graph.nodes i ≡ Some n → vars ≡ graph.vars → before ≡ i → node_fits vars before n ≡ true
fits_here graph i vars before n ok there v b =
    (λ j. node_fits (v j) ((b ∙ sym (zero-add i)) j) n) ∙ ap (node_fits graph.vars (0 + i)) (sym (get_or_from_slice_get graph.nodes i n true_node there))
    ∙ nodes_fit-at graph.vars 0 graph.nodes i ok.nodes.fit (slice_get_within graph.nodes i n there)

pub length-least_costs : (graph : Graph) (evidence costs xs : List ℕ) → AreLeastCosts graph evidence costs xs → length xs ≡ length graph.nodes
length-least_costs graph evidence costs xs v = sym (length-map xs cost_in) ∙ ap length v ∙ length-costs_to graph evidence costs (length graph.nodes) (omega arith)

pub is_least : (graph : Graph) (evidence costs : List ℕ) (xs : List ℕ) → IsGraph graph → length evidence ≡ graph.vars → length costs ≤ graph.vars
    → AreLeastCosts graph evidence costs xs → least_under graph evidence costs ≡ AddHeld (held_cost costs evidence) (cost_in (get_or xs (length graph.nodes - 1) 0))
unfolding costs_to
is_least graph evidence costs xs ok long within v = least_is graph evidence costs ok long within
    ∙ (λ j. AddHeld (held_cost costs evidence) (cost_at (values (cost_under evidence costs) (sym (take-length graph.nodes) j)) (length graph.nodes - 1)))
    ∙ (λ j. AddHeld (held_cost costs evidence) (cost_at (sym v j) (length graph.nodes - 1)))
    ∙ ap (AddHeld (held_cost costs evidence)) (cost_at-map xs (length graph.nodes - 1) (omega (arith, length-least_costs graph evidence costs xs v, ok.some)))

-- the value of a node that has a cost is at most the cost of all parts
pub value_small : (graph : Graph) (evidence costs : List ℕ) (k : ℕ) (xs : List ℕ) → IsGraph graph → AreLeastCosts graph evidence costs xs → k < length xs
    → (get_or xs k 0 ≡ 4294967295 → ⊥) → get_or xs k 0 ≤ total_cost costs
unfolding costs_to
value_small graph evidence costs k xs ok v h ne = cost_small graph evidence costs k ok (get_or xs k 0)
    ((λ i. cost_at (values (cost_under evidence costs) (sym (take-length graph.nodes) i)) k) ∙ ap (λ cs. cost_at cs k) (sym v) ∙ cost_at-map xs k h ∙ cost_in-some (get_or xs k 0) ne)

-- the values so far, after one more is written
pub written : (values : List ℕ) (i v : ℕ) → i < length values → map cost_in (take (i + 1) (set values i v)) ≡ map cost_in (take i values) ++ cost_in v ∷ []
written values i v h = rw (take_more_set values i v h) (simp map-append)

pub all_valued : (graph : Graph) (evidence costs : List ℕ) (i : ℕ) (left : List Node) (xs : List ℕ) → length xs ≡ length graph.nodes → drop i graph.nodes ≡ left → left ≡ []
    → map cost_in (take i xs) ≡ costs_to graph evidence costs i → AreLeastCosts graph evidence costs xs
unfolding costs_to
all_valued graph evidence costs i left xs long d none v =
    let past : length graph.nodes ≤ i = omega (arith, length-drop i graph.nodes, ap length (d ∙ none)) in
    grind (arith, take_all)

pub none_yet : (graph : Graph) (evidence costs : List ℕ) → [] ≡ costs_to graph evidence costs 0
unfolding costs_to
none_yet graph evidence costs = refl

module _ (graph : Graph) (evidence costs xs : List ℕ) (root : ℕ) (ok : IsGraph graph) (long : length evidence ≡ graph.vars) (within : length costs ≤ graph.vars)
    (at : root ≡ length graph.nodes - 1) (v : AreLeastCosts graph evidence costs xs) where
  answer : least_under graph evidence costs ≡ AddHeld (held_cost costs evidence) (cost_in (get_or xs root 0))
  answer = is_least graph evidence costs xs ok long within v ∙ (λ j. AddHeld (held_cost costs evidence) (cost_in (get_or xs (sym at j) 0)))

  pub root_small : (get_or xs root 0 ≡ 4294967295 → ⊥) → get_or xs root 0 ≤ total_cost costs
  root_small ne = value_small graph evidence costs root xs ok v (omega (arith, ok.some, length-least_costs graph evidence costs xs v)) ne

  pub root_none : get_or xs root 0 ≡ 4294967295 → None ≡ least_under graph evidence costs
  root_none r = sym (answer ∙ ap (λ n. AddHeld (held_cost costs evidence) (cost_in n)) r)

  pub root_some : (held : ℕ) → (get_or xs root 0 ≡ 4294967295 → ⊥) → held ≡ held_cost costs evidence → Some (get_or xs root 0 + held) ≡ least_under graph evidence costs
  root_some held ne h = ap Some (omega (arith, h)) ∙ sym (answer ∙ ap (AddHeld (held_cost costs evidence)) (cost_in-some (get_or xs root 0) ne))
