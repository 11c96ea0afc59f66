-- The cost of the parts of a state, one after the other.
use Rattle.std.proofs.Common.{◌≡◌, ℕ, ◌+◌, ◌<◌, ◌≤◌, cond, List, length, get_or, drop, ap, ◌∙◌}
use Rattle.std.specs.Prelude.{◌==◌}
use Rattle.std.proofs.lemmas.List.{drop_all, drop_more}
use Rattle.state_rules.specs.Ranking.{cost}
use Rattle.conditioner.specs.Evidence.{bits_of}
use Rattle.node_costs.proofs.States.{cost-cons}
use Rattle.minimiser.proofs.Held.{total-drop}

pub cost-drop : (costs state : List ℕ) (i : ℕ) → i < length costs → i < length state
    → cost (drop i costs) (bits_of (drop i state)) ≡ cond (get_or state i 0 == 0) 0 (get_or costs i 0) + cost (drop (i + 1) costs) (bits_of (drop (i + 1) state))
cost-drop costs state i h g = (λ j. cost (drop_more costs i 0 h j) (bits_of (drop_more state i 0 g j))) ∙ cost-cons (get_or costs i 0) (drop (i + 1) costs) (get_or state i 0 == 0) (bits_of (drop (i + 1) state))

pub cost-end : (costs state : List ℕ) (i : ℕ) → length costs ≤ i → cost (drop i costs) (bits_of (drop i state)) ≡ 0
cost-end costs state i h = ap (λ cs. cost cs (bits_of (drop i state))) (drop_all i costs h)

pub ruleset cost_steps = (cost-drop, cost-end, total-drop)
