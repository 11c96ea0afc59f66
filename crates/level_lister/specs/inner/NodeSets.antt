-- The sets of costs that the nodes of a graph can have, if some are skipped.
use Rattle.std.specs.Prelude.{ℕ, ◌-◌, ◌<◌, ◌≤◌, true, List, length}
use Rattle.state_rules.specs.Graphs.{Graph, is_true, mentions}
use Rattle.part_sets.specs.Numbers.{set_at}
use Rattle.level_lister.specs.Listing.{Kept, cost_words}
use Rattle.level_lister.specs.inner.CostSets.{IsCostSet}
use Rattle.level_lister.specs.inner.Skips.{living}

-- the costs of the faulty parts below a node at which it can be true
abbrev pub IsNodeSet : Graph → List ℕ → List ℕ → List ℕ → ℕ → List ℕ → Type 0
IsNodeSet graph skips evidence costs k set = IsCostSet evidence costs (λ a. is_true (living graph.nodes skips) k a) (λ v. mentions graph.nodes v k) set

-- the same for the first `n` nodes
abbrev pub AreNodeSets : Graph → List ℕ → List ℕ → List ℕ → ℕ → List ℕ → ℕ → Type 0
AreNodeSets graph skips evidence costs size sets n = (k : ℕ) → k < n → IsNodeSet graph skips evidence costs k (set_at sets k size)

-- the costs of all faulty parts at which the last node can be true
abbrev pub IsWholeSet : Graph → List ℕ → List ℕ → List ℕ → List ℕ → Type 0
IsWholeSet graph skips evidence costs set =
    IsCostSet evidence costs (λ a. is_true (living graph.nodes skips) (length graph.nodes - 1) a) (λ v. true) set

-- `work` begins with the sets of all nodes, each with as many words as the costs need.
abbrev pub BeginWithSets : Graph → List ℕ → List ℕ → Kept → List ℕ → Type 0
BeginWithSets graph skips evidence levels work = AreNodeSets graph skips evidence levels.costs (cost_words levels.top) work (length graph.nodes)

-- The sets are there if a pass uses them: if costs of 32 and more are listed.
abbrev pub AreReady : Graph → List ℕ → List ℕ → Kept → List ℕ → Type 0
AreReady graph skips evidence levels work = 32 ≤ levels.top → BeginWithSets graph skips evidence levels work
