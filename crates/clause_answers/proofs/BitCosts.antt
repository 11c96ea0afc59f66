-- The cost of the parts in bits of all variables.
use Rattle.std.proofs.Common.{◌≡◌, ℕ, zero, suc, ◌+◌, ◌<◌, ◌≤◌, Bool, true, false, if◌then◌else◌, List, [], ◌∷◌, length, get_or, take, drop, refl, ap, arith}
use Rattle.std.proofs.lemmas.List.{drop_all}
use Rattle.state_rules.specs.Ranking.{cost}
use Rattle.minimiser.proofs.Held.{total-drop}

-- bits after those of the parts cost nothing
pub cost-take : (costs : List ℕ) (bits : List Bool) → cost costs (take (length costs) bits) ≡ cost costs bits
cost-take [] bits = refl
cost-take (c ∷ costs) [] = refl
cost-take (c ∷ costs) (true ∷ bits) = cost-take costs bits
cost-take (c ∷ costs) (false ∷ bits) = ap (λ n. c + n) (cost-take costs bits)

pub cost-more : (costs : List ℕ) (bits : List Bool) (i : ℕ) → i < length costs → i < length bits
    → cost (drop i costs) (drop i bits) ≡ (if get_or bits i false then 0 else get_or costs i 0) + cost (drop (i + 1) costs) (drop (i + 1) bits)
cost-more (c ∷ costs) (true ∷ bits) zero h k = grind arith
cost-more (c ∷ costs) (false ∷ bits) zero h k = grind arith
cost-more (c ∷ costs) (b ∷ bits) (suc i) h k = grind (arith, cost-more costs bits i)
cost-more costs bits i h k = absurd (omega arith)

pub cost-end : (costs : List ℕ) (bits : List Bool) (i : ℕ) → length costs ≤ i → cost (drop i costs) (drop i bits) ≡ 0
cost-end costs bits i h = ap (λ cs. cost cs (drop i bits)) (drop_all i costs h)

pub ruleset cost_steps = (cost-take, cost-more, cost-end, total-drop)
