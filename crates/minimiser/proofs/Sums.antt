-- Costs of children, one after another.
use Rattle.std.proofs.Common.{◌≡◌, ℕ, zero, suc, ◌+◌, ◌<◌, ◌≤◌, min, List, [], ◌∷◌, map, length, get_or, drop, All, Option, Some, refl, ◌∙◌, arith}
use Rattle.std.specs.Prelude.{IfSome}
use Rattle.std.proofs.lemmas.List.{drop_more}
use Rattle.minimiser.specs.Costs.{add_costs, min_costs, cost_at, sum_costs, cheapest}
use Rattle.state_rules.specs.Numbers.{cost_in}

pub cost_at-map : (values : List ℕ) (k : ℕ) → k < length values → cost_at (map cost_in values) k ≡ cost_in (get_or values k 0)
cost_at-map [] k h = absurd (omega arith)
cost_at-map (v ∷ values) zero h = refl
cost_at-map (v ∷ values) (suc k) h = cost_at-map values k (omega arith)

abbrev pub child_costs : List ℕ → List ℕ → List (Option ℕ)
child_costs values kids = map (cost_at (map cost_in values)) kids

-- the cost of the children from here on, and of the first of them
pub sum-drop : (values kids : List ℕ) (i : ℕ) → i < length kids → get_or kids i 0 < length values
    → sum_costs (child_costs values (drop i kids)) ≡ add_costs (cost_in (get_or values (get_or kids i 0) 0)) (sum_costs (child_costs values (drop (i + 1) kids)))
sum-drop values kids i h g = (λ j. sum_costs (child_costs values (drop_more kids i 0 h j))) ∙ (λ j. add_costs (cost_at-map values (get_or kids i 0) g j) (sum_costs (child_costs values (drop (i + 1) kids))))

pub least-drop : (values kids : List ℕ) (i : ℕ) → i < length kids → get_or kids i 0 < length values
    → cheapest (child_costs values (drop i kids)) ≡ min_costs (cost_in (get_or values (get_or kids i 0) 0)) (cheapest (child_costs values (drop (i + 1) kids)))
least-drop values kids i h g = (λ j. cheapest (child_costs values (drop_more kids i 0 h j))) ∙ (λ j. min_costs (cost_at-map values (get_or kids i 0) g j) (cheapest (child_costs values (drop (i + 1) kids))))

abbrev here : List ℕ → List ℕ → ℕ → ℕ
here values kids i = get_or values (get_or kids i 0) 0

pub cost_in-some : (v : ℕ) → (v ≡ 4294967295 → ⊥) → cost_in v ≡ Some v
cost_in-some v h = grind arith

-- The greatest number means no cost. A sum that is cut there means none exactly if one of both does, unless the whole sum is none.
cut_sum : (a b : ℕ) (c all : Option ℕ) → a ≤ 4294967295 → b ≤ 4294967295 → IfSome all (λ n. n < 2147483647)
    → add_costs (cost_in a) (add_costs (cost_in b) c) ≡ all → add_costs (cost_in (min (a + b) 4294967295)) c ≡ all
cut_sum a b c all h g small is = grind arith

pub sum_step : (values kids : List ℕ) (i total : ℕ) (all : Option ℕ) → i < length kids → get_or kids i 0 < length values → total ≤ 4294967295 → get_or values (get_or kids i 0) 0 ≤ 4294967295
    → IfSome all (λ n. n < 2147483647) → add_costs (cost_in total) (sum_costs (child_costs values (drop i kids))) ≡ all
    → add_costs (cost_in (min (total + get_or values (get_or kids i 0) 0) 4294967295)) (sum_costs (child_costs values (drop (i + 1) kids))) ≡ all
sum_step values kids i total all h g x y small is = grind (arith, sum-drop)

pub two_children : (values kids : List ℕ) → length kids ≡ 2 → All (λ k. k < length values) kids → child_costs values kids ≡ cost_in (here values kids 0) ∷ cost_in (here values kids 1) ∷ []
two_children values [] e h = absurd (omega arith)
two_children values (k ∷ []) e h = absurd (omega arith)
two_children values (k ∷ m ∷ []) e h = λ j. cost_at-map values k (h 0 0 (omega arith)) j ∷ cost_at-map values m (h 1 0 (omega arith)) j ∷ []
two_children values (k ∷ m ∷ n ∷ kids) e h = absurd (omega arith)

pub sum_two : (a b : ℕ) → a ≤ 4294967295 → b ≤ 4294967295 → IfSome (sum_costs (cost_in a ∷ cost_in b ∷ [])) (λ n. n < 2147483647)
    → cost_in (min (a + b) 4294967295) ≡ sum_costs (cost_in a ∷ cost_in b ∷ [])
sum_two a b x y small = let cut = cut_sum a b (Some 0) (sum_costs (cost_in a ∷ cost_in b ∷ [])) x y small refl in grind arith

pub least_step : (values kids : List ℕ) (i best : ℕ) → i < length kids → get_or kids i 0 < length values → best ≤ 4294967295 → get_or values (get_or kids i 0) 0 ≤ 4294967295
    → min_costs (cost_in (min best (get_or values (get_or kids i 0) 0))) (cheapest (child_costs values (drop (i + 1) kids))) ≡ min_costs (cost_in best) (cheapest (child_costs values (drop i kids)))
least_step values kids i best h g x y = grind (arith, least-drop)

pub least_two : (a b : ℕ) → a ≤ 4294967295 → b ≤ 4294967295 → cost_in (min a b) ≡ cheapest (cost_in a ∷ cost_in b ∷ [])
least_two a b x y = grind arith
