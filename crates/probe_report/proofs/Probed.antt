-- The final numbers of the wires.
use Rattle.std.proofs.Common.{◌≡◌, ℕ, zero, suc, ◌+◌, ◌-◌, ◌<◌, ◌≤◌, Bool, true, false, cond, List, [], ◌∷◌, length, get_or, set, Option, Some, None, refl, ap, sym, ◌∙◌, arith, inl, inr}
use Rattle.std.specs.Prelude.{◌⊎◌, nat_lt}
use Rattle.std.proofs.Math.ListN.{length-set}
use Rattle.std.proofs.lemmas.Bool.{ltb-true, eqb-false}
use Rattle.std.proofs.lemmas.List.{get_or_past}
use Rattle.std.proofs.lemmas.List.Sums.{sum_by-cons}
use Rattle.state_rules.specs.Ranking.{least}
use Rattle.state_rules.specs.Graphs.{Node, Graph, IsGraph}
use Rattle.conditioner.specs.Evidence.{known_of, word_of, leaf_of}
use Rattle.conditioner.specs.Models.{has_model, fits_evidence, least_under, least_with, total_cost}
use Rattle.node_costs.proofs.States.{least-out, least-in}
use Rattle.minimiser.specs.Costs.{part_cost}
use Rattle.state_rules.specs.Numbers.{cost_in}
use Rattle.minimiser.specs.Stored.{AreLeastCosts}
use Rattle.minimiser.specs.inner.Held.{held_one, held_cost}
use Rattle.minimiser.proofs.Sums.{cost_in-some}
use Rattle.minimiser.proofs.OnePass.{is_least, value_small, length-least_costs}
use Rattle.minimiser.proofs.LeastOfModels.{AddHeld, least_is}
use Rattle.minimiser.specs.inner.Outside.{AreOutsideCosts}
use Rattle.probe_report.specs.inner.Outside.{IsLowered, Without, With}
use Rattle.probe_report.specs.inner.Settled.{settled}
use Rattle.probe_report.proofs.LoweredNumbers.{lowered-then}
use Rattle.probe_report.proofs.Exits.{root-is}
use Rattle.probe_report.proofs.ModelsWithBit.{with-true, with-false, with-open, with_bit, with-model}

-- ---- what is held

held-le : (costs evidence : List ℕ) → held_cost costs evidence ≤ total_cost costs
held-le [] evidence = omega arith
held-le (c ∷ costs) [] = omega arith
held-le (c ∷ costs) (w ∷ evidence) = grind (arith, sum_by-cons (λ (x : ℕ). x) c costs, held-le costs evidence)

-- a variable of no part does not change it
held-same : (costs evidence : List ℕ) (i w : ℕ) → length costs ≤ i → held_cost costs (set evidence i w) ≡ held_cost costs evidence
held-same [] evidence i w h = refl
held-same (c ∷ costs) [] i w h = refl
held-same (c ∷ costs) (x ∷ evidence) zero w h = absurd (omega arith)
held-same (c ∷ costs) (x ∷ evidence) (suc i) w h = ap (λ n. held_one c (known_of x) + n) (held-same costs evidence i w (omega arith))

-- the least cost exceeds the root's by what is held
pub record Held (root fewest held : ℕ) : Type 0 where
  pub low : root ≤ fewest
  pub is : fewest - root ≡ held
  pub small : fewest - root < 2147483647
  pub fits : fewest < 4294967295

pub held-is : (graph : Graph) (evidence costs xs : List ℕ) (fewest root : ℕ) → IsGraph graph → length evidence ≡ graph.vars → length costs ≤ graph.vars → total_cost costs < 2147483647
    → AreLeastCosts graph evidence costs xs → Some fewest ≡ least_under graph evidence costs → root ≡ length graph.nodes - 1 → Held (get_or xs root 0) fewest (held_cost costs evidence)
held-is graph evidence costs xs fewest root ok long within total v e at = by_cost (cost_in (get_or xs (length graph.nodes - 1) 0)) refl (e ∙ is_least graph evidence costs xs ok long within v) where
  same : get_or xs root 0 ≡ get_or xs (length graph.nodes - 1) 0
  same = ap (λ k. get_or xs k 0) at

  value : (w c : ℕ) → cost_in w ≡ Some c → (w ≡ c) × (w ≡ 4294967295 → ⊥)
  value w c q = grind (arith, eqb-false)

  by_cost : (o : Option ℕ) → cost_in (get_or xs (length graph.nodes - 1) 0) ≡ o → Some fewest ≡ AddHeld (held_cost costs evidence) o → Held (get_or xs root 0) fewest (held_cost costs evidence)
  by_cost o q r = grind (arith, value_small, length-least_costs, held-le)

-- ---- if nothing agrees, nothing does with one more bit

pub with-none : (graph : Graph) (evidence costs : List ℕ) (var : ℕ) (bit : Bool) → least_under graph evidence costs ≡ None → None ≡ least_with graph evidence costs var bit
with-none graph evidence costs var bit e = sym (least-in costs (length costs) (with_bit graph evidence costs (var - 1) bit) None
    (λ n s. least-out costs (length costs) (has_model graph (fits_evidence evidence) (length costs)) None e n
    (grind (arith, with-model))))

-- ---- one wire

module _ (graph : Graph) (evidence costs : List ℕ) (ok : IsGraph graph) (long : length evidence ≡ graph.vars) (total : total_cost costs < 2147483647) (vs os : List ℕ) (least_costs : AreLeastCosts graph evidence costs vs) (outside : AreOutsideCosts graph.nodes vs os 0)
    (wire : ℕ) (room : length costs + wire < graph.vars) (bit : Bool) where
  abbrev var : ℕ
  var = length costs + wire + 1

  place : length costs + wire + 1 - 1 ≡ length costs + wire
  place = omega arith

  free : part_cost costs (length costs + wire + 1) ≡ 0
  free = grind (arith, get_or_past)

  open-is : (fewest held best : ℕ) → get_or evidence (length costs + wire) 0 ≡ 0 → held ≡ held_cost costs evidence → held < 2147483647
      → IsLowered (λ c. Without graph.nodes vs os (length costs + wire + 1) c ⊎ With graph.nodes os (length costs + wire + 1) bit c) 4294967295 best
      → cost_in (settled 0 fewest held bit best) ≡ least_with graph evidence costs (length costs + wire + 1) bit
  open-is fewest held best open_ e small lowest =
      by_size (nat_lt best 2147483647) refl
      ∙ sym (ap (least costs) (sym (with-open graph evidence costs var bit long (omega arith) (omega arith) (omega arith) (ap (λ w. leaf_of bit (known_of w)) (sym (ap (λ i. get_or evidence i 0) place ∙ open_)))))
      ∙ least_is graph (set evidence (var - 1) (word_of bit)) costs ok (length-set evidence (var - 1) (word_of bit) ∙ long) (omega arith)
      ∙ (λ i. AddHeld (held-same costs evidence (var - 1) (word_of bit) (omega arith) i) (root-is graph evidence costs ok vs os least_costs outside total var bit (omega arith) (omega (arith, long)) (ap (λ j. get_or evidence j 0) place ∙ open_) free best lowest i))) where
        by_size : (b : Bool) → nat_lt best 2147483647 ≡ b → cost_in (cond b (best + held) 4294967295) ≡ AddHeld (held_cost costs evidence) (cond b (Some best) None)
        by_size true t = cost_in-some (best + held) (λ q. absurd (omega (arith, ltb-true best 2147483647 t))) ∙ ap Some (omega (arith, e))
        by_size false t = refl

  known-is : (fewest held best : ℕ) → Some fewest ≡ least_under graph evidence costs → fewest < 4294967295 → (b : Bool) → get_or evidence (length costs + wire) 0 ≡ word_of b
      → cost_in (settled (word_of b) fewest held bit best) ≡ least_with graph evidence costs (length costs + wire + 1) bit
  known-is fewest held best e fits b says = grind (arith, with-true, with-false)

  -- the answer for a wire
  pub settled-is : (fewest held best : ℕ) → get_or evidence (length costs + wire) 0 < 3 → Some fewest ≡ least_under graph evidence costs → fewest < 4294967295 → held ≡ held_cost costs evidence → held < 2147483647
      → (get_or evidence (length costs + wire) 0 ≡ 0 → IsLowered (λ c. Without graph.nodes vs os (length costs + wire + 1) c ⊎ With graph.nodes os (length costs + wire + 1) bit c) 4294967295 best)
      → cost_in (settled (get_or evidence (length costs + wire) 0) fewest held bit best) ≡ least_with graph evidence costs (length costs + wire + 1) bit
  settled-is fewest held best said e fits h small lowest = by_word (get_or evidence (length costs + wire) 0) refl where
    by_word : (w : ℕ) → get_or evidence (length costs + wire) 0 ≡ w → cost_in (settled w fewest held bit best) ≡ least_with graph evidence costs (length costs + wire + 1) bit
    by_word zero q = open-is fewest held best q h small (lowest q)
    by_word (suc zero) q = known-is fewest held best e fits true q
    by_word (suc (suc zero)) q = known-is fewest held best e fits false q
    by_word (suc (suc (suc n))) q = absurd (omega arith)

-- a number lowered to the costs without a literal, and then to those with one
pub exits-lowered : (nodes : List Node) (vs os : List ℕ) (var : ℕ) (bit : Bool) (none mid best : ℕ) → none ≡ 4294967295 → IsLowered (Without nodes vs os var) none mid → IsLowered (With nodes os var bit) mid best
    → IsLowered (λ c. Without nodes vs os var c ⊎ With nodes os var bit c) 4294967295 best
exits-lowered nodes vs os var bit none mid best e without literals = rw e at (lowered-then {R = λ c. Without nodes vs os var c ⊎ With nodes os var bit c} none mid best without literals (λ x p. inl p) (λ x q. inr q) (λ x r. r))
