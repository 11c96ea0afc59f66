-- The least cost of the models of a graph, from the costs of its nodes.
use Rattle.std.proofs.Common.{◌≡◌, ℕ, zero, suc, ◌+◌, ◌-◌, ◌<◌, ◌≤◌, Bool, true, cond, ◌&&◌, List, [], ◌∷◌, ◌++◌, length, take, drop, get_or, Option, Some, refl, ap, sym, ◌∙◌, subst, arith, length-append, length-drop}
use Rattle.std.specs.Prelude.{option_map}
use Rattle.std.proofs.lemmas.Bool.{and_from}
use Rattle.std.proofs.lemmas.List.{take-append-drop, length-take-le, get_or_past}
use Rattle.state_rules.specs.Bits.{bit_in, lists_of_bits}
use Rattle.state_rules.specs.Cases.{agrees_at}
use Rattle.state_rules.specs.Ranking.{cost, least}
use Rattle.state_rules.specs.Assignments.{Assignment, assignment}
use Rattle.state_rules.specs.Graphs.{Graph, mentions, is_true, holds, IsGraph}
use Rattle.state_rules.proofs.Members.{In, bits_in, bits_length, any_from, any_in, AtMost}
use Rattle.state_rules.proofs.Mentions.{mentioned-range}
use Rattle.state_rules.proofs.Bits.{bit_in-front}
use Rattle.conditioner.specs.Evidence.{known_of}
use Rattle.conditioner.specs.Models.{has_model, fits_evidence, models}
use Rattle.conditioner.proofs.FittingEvidence.{fits_evidence-at, fits_evidence-from}
use Rattle.minimiser.specs.Costs.{part_cost, known_at, least_at}
use Rattle.minimiser.specs.inner.Held.{held_one, held_cost}
use Rattle.node_costs.specs.Costs.{total, TestCost, StateCost}
use Rattle.node_costs.proofs.Sets.{least-more}
use Rattle.node_costs.proofs.Totals.{total-add}
use Rattle.node_costs.proofs.States.{cost-total, least-in}
use Rattle.minimiser.proofs.Costs.{fault, open_weights, widened, IsLeastCost, Agrees, all_faults, and_left, and_right}
use Rattle.minimiser.proofs.Nodes.{is_cost}

-- ---- the cost of a state

one_cost : (k : Option Bool) (c : ℕ) (b : Bool) → agrees_at k b ≡ true → cond b 0 c ≡ held_one c k + fault k c b
one_cost k c b e = grind arith

-- the cost of the held parts, as a sum over their variables
held-total : (f : ℕ → ℕ) (v : ℕ) (costs evidence : List ℕ) → length costs ≤ length evidence → ((i : ℕ) → i < length costs → f (v + i) ≡ held_one (get_or costs i 0) (known_of (get_or evidence i 0))) → total f v (length costs) ≡ held_cost costs evidence
held-total f v [] evidence m e = refl
held-total f v (c ∷ costs) [] m e = absurd (omega arith)
held-total f v (c ∷ costs) (w ∷ evidence) m e =
    let first : v + 0 ≡ v = omega arith in
    omega (arith, ap f (sym first) ∙ e zero (omega arith), held-total f (v + 1) costs evidence (omega arith) (λ i lt. ap f (let s : v + 1 + i ≡ v + suc i = omega arith in s) ∙ e (suc i) (omega arith)))

-- a variable of no part costs nothing
pub part_cost-none : (costs : List ℕ) (v : ℕ) → ((1 ≤ v) → (v < 1 + length costs) → ⊥) → part_cost costs v ≡ 0
part_cost-none costs v h = grind (arith, get_or_past)

-- ---- an assignment as a list

abbrev bits_from : Assignment → ℕ → ℕ → List Bool
bits_from a s zero = []
bits_from a s (suc n) = a s ∷ bits_from a (s + 1) n

length-bits_from : (a : Assignment) (s n : ℕ) → length (bits_from a s n) ≡ n
length-bits_from a s zero = refl
length-bits_from a s (suc n) = ap suc (length-bits_from a (s + 1) n)

bit_in-bits_from : (a : Assignment) (s n i : ℕ) → i < n → bit_in (bits_from a s n) i ≡ a (s + i)
bit_in-bits_from a s zero i h = absurd (omega arith)
bit_in-bits_from a s (suc n) zero h = ap a (omega arith)
bit_in-bits_from a s (suc n) (suc i) h = bit_in-bits_from a (s + 1) n i (omega arith) ∙ ap a (omega arith)

-- ---- the whole graph

abbrev pub AddHeld : ℕ → Option ℕ → Option ℕ
AddHeld held c = option_map (λ n. held + n) c

pub from_bounds : (o : Option ℕ) (n : ℕ) → AtMost o n → ((k : ℕ) → o ≡ Some k → n ≤ k) → o ≡ Some n
from_bounds o n h low = grind arith

less_one : (i : ℕ) → i ≡ 1 + i - 1
less_one i = omega arith

module _ (graph : Graph) (evidence costs : List ℕ) (ok : IsGraph graph) (long : length evidence ≡ graph.vars) (within : length costs ≤ graph.vars) where
  abbrev kn : ℕ → Option Bool
  kn v = known_at evidence v

  abbrev price : ℕ → ℕ
  price v = part_cost costs v

  abbrev root : ℕ
  root = length graph.nodes - 1

  abbrev truth_of : Assignment → Bool
  truth_of a = is_true graph.nodes root a

  abbrev held : ℕ
  held = held_cost costs evidence

  root_is : IsLeastCost kn price (length costs) truth_of (λ v. mentions graph.nodes v root) (least_at graph evidence costs root)
  root_is = is_cost kn price (length costs) (part_cost-none costs) graph ok root

  -- the cost of a state that agrees
  cost_by_bits : (bits : List Bool) (a : Assignment) → length bits ≡ length costs → ((i : ℕ) → i < length costs → bit_in bits i ≡ a (1 + i)) → Agrees kn price (length costs) a
      → cost costs bits ≡ held + all_faults kn price (length costs) a
  cost_by_bits bits a l same ag =
      let apart = total-add (λ v. held_one (price v) (kn v)) (λ v. fault (kn v) (price v) (a v)) (λ v. cond (a v) 0 (price v)) (λ v. one_cost (kn v) (price v) (a v) (ag v)) 1 (length costs) in
      cost-total (λ v. cond (a v) 0 (price v)) 1 costs bits l (λ i h j. cond (sym (same i h) j) 0 (part_cost costs (one_more i j))) ∙ apart
      ∙ ap (λ m. m + all_faults kn price (length costs) a) (held-total (λ v. held_one (price v) (kn v)) 1 costs evidence (omega arith) (λ i h j. held_one (part_cost costs (one_more i j)) (known_of (get_or evidence (sym (less_one i) j) 0)))) where
        one_more : (i : ℕ) → 1 + i ≡ suc i
        one_more i = omega arith

  abbrev is_model : List Bool → List Bool → Bool
  is_model bits others = fits_evidence evidence (bits ++ others) && holds graph (bits ++ others)

  -- an assignment, as a state of the parts that the evidence allows
  pub record StateOf (a : Assignment) : Type 0 where
    pub state : List Bool
    pub long_state : length state ≡ length costs
    pub model : has_model graph (fits_evidence evidence) (length costs) state ≡ true
    pub cost_is : cost costs state ≡ held_cost costs evidence + all_faults (known_at evidence) (part_cost costs) (length costs) a
    pub bits : (i : ℕ) → i < length costs → bit_in state i ≡ a (1 + i)

  pub state_of : (a : Assignment) → Agrees kn price (length costs) a → truth_of a ≡ true → StateOf a
  state_of a agree true_at =
      let full : List Bool = bits_from a 1 graph.vars in
      let full_long : length full ≡ graph.vars = length-bits_from a 1 graph.vars in
      let bits : List Bool = take (length costs) full in
      let others : List Bool = drop (length costs) full in
      let joins : bits ++ others ≡ full = take-append-drop (length costs) full in
      let h_long : length bits ≡ length costs = length-take-le (length costs) full (omega arith) in
      let o_long : length others ≡ graph.vars - length costs = omega (arith, length-drop (length costs) full) in
      let ag : fits_evidence evidence full ≡ true = full_agrees a agree in
      let tr : truth_of (assignment full) ≡ true = full_true a ∙ true_at in
      let m : is_model bits others ≡ true = subst (λ xs. (fits_evidence evidence xs && holds graph xs) ≡ true) (sym joins) (and_from _ _ ag tr) in
      let passes : has_model graph (fits_evidence evidence) (length costs) bits ≡ true = any_in (is_model bits) others _ (subst (λ n. In others (lists_of_bits n)) o_long (bits_in others)) m in
      let same : (i : ℕ) → i < length costs → bit_in bits i ≡ a (1 + i) = λ i h. sym (bit_in-front bits others i (omega arith)) ∙ ap (λ xs. bit_in xs i) joins ∙ bit_in-bits_from a 1 graph.vars i (omega arith) in
      record { state = bits; long_state = h_long; model = passes; cost_is = cost_by_bits bits a h_long same agree; bits = same } where
        full_agrees : (a : Assignment) → Agrees kn price (length costs) a → fits_evidence evidence (bits_from a 1 graph.vars) ≡ true
        full_agrees a ag = grind (arith, fits_evidence-from, bit_in-bits_from, length-bits_from)

        full_true : (a : Assignment) → truth_of (assignment (bits_from a 1 graph.vars)) ≡ truth_of a
        full_true a = root_is.local _ a (λ v m. let h = mentioned-range graph.vars graph.nodes v root ok.nodes.fit m in bit_in-bits_from a 1 graph.vars (v - 1) (omega (arith, h.low, h.high)) ∙ ap a (omega (arith, h.low, h.high)))

  -- a state that the evidence allows, as an assignment
  pub record AssignmentOf (h : List Bool) : Type 0 where
    pub by : Assignment
    pub agrees : Agrees (known_at evidence) (part_cost costs) (length costs) by
    pub holds : is_true graph.nodes (length graph.nodes - 1) by ≡ true
    pub cost_is : cost costs h ≡ held_cost costs evidence + all_faults (known_at evidence) (part_cost costs) (length costs) by
    pub bits : (i : ℕ) → i < length costs → bit_in h i ≡ by (1 + i)

  pub assignment_of : (h : List Bool) → length h ≡ length costs → has_model graph (fits_evidence evidence) (length costs) h ≡ true → AssignmentOf h
  assignment_of h l e =
      let r = any_from (is_model h) (lists_of_bits (graph.vars - length costs)) e in
      let len : length r.item ≡ graph.vars - length costs = bits_length (graph.vars - length costs) r.item r.is_in in
      let ag : fits_evidence evidence (h ++ r.item) ≡ true = and_left _ _ r.passes in
      let agree : Agrees kn price (length costs) (assignment (h ++ r.item)) = λ v. fits_evidence-at evidence (h ++ r.item) (omega (arith, length-append h r.item)) ag (v - 1) in
      let same : (i : ℕ) → i < length costs → bit_in h i ≡ assignment (h ++ r.item) (1 + i) = λ i g. sym (bit_in-front h r.item i (omega arith)) ∙ ap (bit_in (h ++ r.item)) (less_one i) in
      record { by = assignment (h ++ r.item); agrees = agree; holds = and_right (fits_evidence evidence (h ++ r.item)) _ r.passes; cost_is = cost_by_bits h (assignment (h ++ r.item)) l same agree; bits = same }

  -- The least cost of a model is the cost of the held parts and the least cost at the root.
  pub least_is : least costs (models graph evidence (length costs)) ≡ AddHeld held (least_at graph evidence costs root)
  least_is = least-in costs (length costs) (has_model graph (fits_evidence evidence) (length costs)) (AddHeld held (least_at graph evidence costs root))
      (least-more (TestCost (open_weights kn price (length costs)) (λ v. true) truth_of) (StateCost costs (length costs) (has_model graph (fits_evidence evidence) (length costs))) held
      (λ n c. let s = state_of c.by c.agrees c.meets in record { state = s.state; long = s.long_state; passes = s.model; cost_is = s.cost_is ∙ ap (λ k. held + k) c.cost_is })
      (λ n s. let a = assignment_of s.state s.long s.passes in
      (all_faults kn price (length costs) a.by, record { by = a.by; agrees = a.agrees; meets = a.holds; cost_is = refl }, sym a.cost_is ∙ s.cost_is))
      (least_at graph evidence costs root) (widened kn price (length costs) truth_of (λ v. mentions graph.nodes v root) (λ v. true) (least_at graph evidence costs root) (λ v p. refl) root_is))
