-- The replacement of a node costs what the node does.
use Rattle.std.proofs.Common.{◌≡◌, ℕ, ◌≤◌, Bool, true, List, length, Option, Some, refl, subst, arith}
use Rattle.state_rules.specs.Assignments.{Assignment}
use Rattle.state_rules.proofs.Members.{AtMost, AtMost-le}
use Rattle.state_rules.specs.Graphs.{Graph, is_true, mentions, IsGraph}
use Rattle.minimiser.specs.Costs.{part_cost, known_at, least_at}
use Rattle.node_costs.proofs.Totals.{total-le}
use Rattle.minimiser.proofs.Costs.{fault, Agrees, faults_in, faults_in-le, all_faults}
use Rattle.minimiser.proofs.LeastOfModels.{from_bounds}
use Rattle.minimiser.proofs.Derivations.{is_cost}
use Rattle.fault_graph.proofs.LeastNodes.{StandsFor}

-- some variables cost no more than all
pub faults_in-all : (known : ℕ → Option Bool) (cost : ℕ → ℕ) (parts : ℕ) (m : ℕ → Bool) (a : Assignment) → faults_in known cost parts m a ≤ all_faults known cost parts a
faults_in-all known cost parts m a = faults_in-le known cost parts m (λ v. true) a (λ v p. refl)

module _ (graph small : Graph) (evidence costs : List ℕ) (ok : IsGraph graph) (sound : IsGraph small) (k p c : ℕ) (is : least_at graph evidence costs k ≡ Some c)
    (stands : StandsFor (known_at evidence) (part_cost costs) (length costs) (λ a. is_true graph.nodes k a) (λ v. mentions graph.nodes v k) c (λ a. is_true small.nodes p a)) where
  -- what makes the node true costs no less
  pub high : (a : Assignment) → Agrees (known_at evidence) (part_cost costs) (length costs) a → is_true graph.nodes k a ≡ true → c ≤ all_faults (known_at evidence) (part_cost costs) (length costs) a
  high a ag h =
      let low : c ≤ faults_in (known_at evidence) (part_cost costs) (length costs) (λ v. mentions graph.nodes v k) a = subst (λ o. AtMost o (faults_in (known_at evidence) (part_cost costs) (length costs) (λ v. mentions graph.nodes v k) a)) is ((is_cost graph evidence costs ok k).bound a ag h) in
      omega (arith, low, faults_in-all (known_at evidence) (part_cost costs) (length costs) (λ v. mentions graph.nodes v k) a)

  -- what makes the node true at its least cost makes its replacement true
  pub over : (a : Assignment) → Agrees (known_at evidence) (part_cost costs) (length costs) a → is_true graph.nodes k a ≡ true → all_faults (known_at evidence) (part_cost costs) (length costs) a ≤ c → is_true small.nodes p a ≡ true
  over a ag h few = stands.onto a ag h (omega (arith, few, faults_in-all (known_at evidence) (part_cost costs) (length costs) (λ v. mentions graph.nodes v k) a))

  pub place-cost : least_at small evidence costs p ≡ Some c
  place-cost = from_bounds (least_at small evidence costs p) c most low where
    most : AtMost (least_at small evidence costs p) c
    most =
        let r = (is_cost graph evidence costs ok k).reached c is in
        AtMost-le (least_at small evidence costs p) (faults_in (known_at evidence) (part_cost costs) (length costs) (λ v. mentions small.nodes v p) r.by) c ((is_cost small evidence costs sound p).bound r.by r.agrees (over r.by r.agrees r.holds r.cheap))
        (omega (arith, r.cheap, faults_in-all (known_at evidence) (part_cost costs) (length costs) (λ v. mentions small.nodes v p) r.by))

    low : (m : ℕ) → least_at small evidence costs p ≡ Some m → c ≤ m
    low m e =
        let b = (is_cost small evidence costs sound p).reached m e in
        let w = stands.back b.by b.agrees b.holds in
        omega (arith, high w.by w.agrees w.holds, b.cheap, total-le (λ v. fault (known_at evidence v) (part_cost costs v) (w.by v)) (λ v. fault (known_at evidence v) (part_cost costs v) (b.by v)) w.fewer 1 (length costs))
