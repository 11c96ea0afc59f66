-- Skipped nodes are in no derivation of a listed cost.
use Rattle.std.proofs.Common.{◌≡◌, ◌≢◌, ℕ, zero, suc, ◌+◌, ◌-◌, ◌<◌, ◌≤◌, true, cond, List, length, get_or, refl, arith, ⊎_elim}
use Rattle.std.proofs.lemmas.Bool.{cases_lt, le-ltb}
use Rattle.state_rules.specs.Assignments.{Assignment}
use Rattle.state_rules.proofs.Members.{In-at}
use Rattle.state_rules.specs.Graphs.{Graph, node_at, is_true, mentions, IsGraph}
use Rattle.node_costs.specs.Costs.{Agrees}
use Rattle.minimiser.specs.Costs.{known_at, part_cost}
use Rattle.minimiser.specs.Stored.{AreLeastCosts}
use Rattle.minimiser.specs.inner.Outside.{AreOutsideCosts}
use Rattle.minimiser.proofs.Costs.{faults_in, faults_in-le}
use Rattle.minimiser.proofs.OutsideCosts.{child-fits}
use Rattle.minimiser.proofs.SpreadMarks.{child-in}
use Rattle.minimiser.proofs.Valued.{has_least}
use Rattle.minimiser.proofs.LeastOfModels.{state_of}
use Rattle.part_sets.proofs.Children.{child-below}
use Rattle.level_lister.specs.inner.CostSets.{fault_weights}
use Rattle.level_lister.specs.inner.Skips.{living, IsEnough, skip_of}
use Rattle.level_lister.proofs.LivingNodes.{truth_more, graph-is, living-is}
use Rattle.level_lister.proofs.RootCosts.{cost_among-all}

skipped-dear : (top least outside : ℕ) → skip_of top least outside ≢ 0 → top < outside + least
skipped-dear top least outside ne = ⊎_elim (λ (p : top < outside + least). p) (λ (p : outside + least ≤ top). absurd (ne (λ i. cond (le-ltb top (outside + least) p i) 1 0))) (cases_lt top (outside + least))

module _ (graph : Graph) (evidence costs : List ℕ) (ok : IsGraph graph) (least outside skips : List ℕ) (top : ℕ) (are_least : AreLeastCosts graph evidence costs least) (are : AreOutsideCosts graph.nodes least outside 0)
    (marks : (k : ℕ) → k < length graph.nodes → get_or skips k 0 ≡ skip_of top (get_or least k 0) (get_or outside k 0)) where
  module _ (a : Assignment) (agrees : Agrees (fault_weights evidence costs) a) where
    -- the cost of the open faulty parts below a node, with that outside
    abbrev through : ℕ → ℕ
    through k = get_or outside k 0 + faults_in (known_at evidence) (part_cost costs) (length costs) (λ v. mentions graph.nodes v k) a

    child-through : (k : ℕ) → k < length graph.nodes → is_true graph.nodes k a ≡ true → (j : ℕ) → j < length (node_at graph.nodes k).kids
        → is_true graph.nodes (get_or (node_at graph.nodes k).kids j 0) a ≡ true → through (get_or (node_at graph.nodes k).kids j 0) ≤ through k
    child-through k inside e j lt t = child-fits graph evidence costs ok least outside are_least are a agrees k (get_or (node_at graph.nodes k).kids j 0) inside (child-in _ _ (In-at (node_at graph.nodes k).kids j 0 lt)) e t

    -- a node stays true if the derivation through it costs at most `top`
    lives : (fuel k : ℕ) → k < fuel → k < length graph.nodes → is_true graph.nodes k a ≡ true → through k ≤ top → is_true (living graph.nodes skips) k a ≡ true
    lives zero k h inside e le = absurd (omega arith)
    lives (suc fuel) k h inside e le = grind (arith, living-is, truth_more, child-below, child-through, graph-is, lives fuel, marks, skipped-dear, has_least graph evidence costs least are_least ok a agrees k inside e)

  pub enough : length evidence ≡ graph.vars → length costs ≤ graph.vars → IsEnough graph skips evidence costs top
  enough long within = record {
    left = λ a f h le.
        let s = state_of graph evidence costs ok long within a f h in
        let root : length graph.nodes - 1 < length graph.nodes = omega (arith, ok.some) in
        let total = cost_among-all evidence a costs s.state s.long_state s.bits in
        let all = faults_in-le (known_at evidence) (part_cost costs) (length costs) (λ v. mentions graph.nodes v (length graph.nodes - 1)) (λ v. true) a (λ v q. refl) in
        lives a f (suc (length graph.nodes - 1)) (length graph.nodes - 1) (omega arith) root h (omega (arith, le, are.root, s.cost_is, total, all));
  }

-- evidence that fixes more
agrees_old : (old new : List ℕ) → ((k : ℕ) → get_or old k 0 ≢ 0 → get_or new k 0 ≡ get_or old k 0) → (costs : List ℕ) (a : Assignment) → Agrees (fault_weights new costs) a → Agrees (fault_weights old costs) a
agrees_old old new kept costs a f v = grind arith

pub enough_more : (graph : Graph) (skips costs : List ℕ) (top : ℕ) (old new : List ℕ) → ((k : ℕ) → get_or old k 0 ≢ 0 → get_or new k 0 ≡ get_or old k 0) → IsEnough graph skips old costs top → IsEnough graph skips new costs top
enough_more graph skips costs top old new kept is = record { left = λ a f h le. is.left a (agrees_old old new kept costs a f) h le }
