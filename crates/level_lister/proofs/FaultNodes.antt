-- The sets of costs with a fault, from those of the children.
use Rattle.std.proofs.lemmas.Bool.Decides.{nat_tests}
use Rattle.std.proofs.Common.{◌≡◌, ◌≢◌, ℕ, suc, ◌+◌, ◌-◌, ◌*◌, ◌<◌, ◌≤◌, Bool, true, false, List, [], ◌∷◌, map, length, get_or, All, refl, ap, sym, ◌∙◌, subst, arith, inl, inr}
use Rattle.std.specs.Prelude.{◌==◌, nat_lt}
use Rattle.std.specs.List.{list_all, list_any}
use Rattle.std.proofs.lemmas.Bool.{false≢true}
use Rattle.std.proofs.lemmas.Nat.{div_below}
use Rattle.std.proofs.Math.Nat.{lt-div-mul-add}
use Rattle.state_rules.specs.Assignments.{Assignment}
use Rattle.state_rules.specs.declared.nodes.NodeKind.TheVariants.{And}
use Rattle.state_rules.specs.Graphs.{Graph, IsGraph, node_at, truth_by, mention_by, is_true, mentions}
use Rattle.state_rules.proofs.Members.{In}
use Rattle.state_rules.proofs.NodesFit.{fits-at}
use Rattle.minimiser.proofs.Derivations.{any-child, child-with, all-child, all-below}
use Rattle.node_costs.specs.Costs.{cost_among}
use Rattle.node_costs.proofs.Conditions.{cost_among-le}
use Rattle.part_sets.specs.Numbers.{has_number, set_at}
use Rattle.part_sets.proofs.Children.{mention-is}
use Rattle.level_lister.specs.declared.groups.Groups.{Groups}
use Rattle.level_lister.specs.inner.CostSets.{fault_weights}
use Rattle.level_lister.specs.inner.Pairs.{group_in}
use Rattle.level_lister.specs.inner.Skips.{LivesAs, living}
use Rattle.level_lister.specs.inner.FaultSets.{in_first, IsFaultSet, AreBothSets, IsNodeFaults, AreNodeFaults}
use Rattle.level_lister.proofs.Faults.{moved}
use Rattle.level_lister.proofs.LivingNodes.{living-is, skipped-is}
use Rattle.level_lister.proofs.TestCosts.{zero_is}
use Rattle.scratch_pool.proofs.Counted.{block-below}
use Rattle.scratch_pool.proofs.Written.{length-words_at}
use Rattle.level_lister.proofs.PairNodes.{grouped, on_parts}
use Rattle.node_costs.proofs.Sets.{row-none}

-- ---- the first group

pub first_is : (evidence : List ℕ) (parts : ℕ) (groups : Groups) (part : ℕ) → 0 < groups.size → part < parts → groups.low ≤ part → get_or evidence part 0 ≡ 0
    → nat_lt (part - groups.low) groups.size ≡ group_in evidence parts groups 0 (part + 1)
first_is evidence parts groups part some within low open_ = grind (arith, nat_tests, div_below (part - groups.low) groups.size 1, lt-div-mul-add {a = part - groups.low} {b = groups.size})

-- a part of it is open
pub first_open : (evidence costs : List ℕ) (groups : Groups) (part : ℕ) → in_first evidence costs groups (part + 1) ≡ true → get_or evidence part 0 ≡ 0
first_open evidence costs groups part e = ap (λ k. get_or evidence k 0) (let back : part ≡ part + 1 - 1 = omega arith in back) ∙ (grouped evidence (length costs) groups 0 (part + 1) e).open_

pub first_parts : (evidence costs : List ℕ) (groups : Groups) (v : ℕ) → in_first evidence costs groups v ≡ true → (1 ≤ v) × (v < 1 + length costs)
first_parts evidence costs groups v e = on_parts evidence (length costs) groups 0 v e

-- no child
pub both_zero : (evidence costs : List ℕ) (group : ℕ → Bool) (set faults : List ℕ) → ((n : ℕ) → n < 32 * length set → has_number set n ≡ (n == 0)) → ((n : ℕ) → has_number faults n ≡ false)
    → AreBothSets evidence costs group (λ a. true) (λ v. false) set faults
both_zero evidence costs group set faults one none = record { all = zero_is evidence costs set one; faulty = row-none (32 * length faults) (has_number faults) _ (λ n lt. none n) (λ n c. false≢true c.meets.1.among) }

-- a test that is never true
pub never_faults : (evidence costs : List ℕ) (group some : ℕ → Bool) (set : List ℕ) → ((n : ℕ) → has_number set n ≡ false) → IsFaultSet evidence costs group (λ a. false) some set
never_faults evidence costs group some set none = row-none (32 * length set) (has_number set) _ (λ n lt. none n) (λ n c. false≢true c.meets.0)

-- a skipped node
pub skipped_faults : (graph : Graph) (skips evidence costs : List ℕ) (groups : Groups) (at : ℕ) (set : List ℕ) → IsGraph graph → at < length graph.nodes → get_or skips at 0 ≢ 0 → ((n : ℕ) → has_number set n ≡ false)
    → IsNodeFaults graph skips evidence costs groups at set
skipped_faults graph skips evidence costs groups at set ok inside ne none = row-none (32 * length set) (has_number set) _ (λ n lt. none n) (λ n c. false≢true (sym (skipped-is graph skips ok at inside ne c.by) ∙ c.meets.0))

all_in : (P : ℕ → Type 0) (x : ℕ) (xs : List ℕ) → All P xs → In x xs → P x
all_in P x [] all m = absurd m
all_in P x (y ∷ ys) all (inl e) = subst P (sym e) (all 0 y (omega arith))
all_in P x (y ∷ ys) all (inr m) = all_in P x ys (λ k d lt. all (suc k) d (omega arith)) m

-- an And node of which no child has a cost with a fault
pub no_fault_below : (graph : Graph) (skips evidence costs : List ℕ) (groups : Groups) (at size : ℕ) (sets set : List ℕ) → IsGraph graph → LivesAs graph skips at And
    → length sets ≡ at * size → length set ≡ size → AreNodeFaults graph skips evidence costs groups size sets at
    → All (λ k. (n : ℕ) → has_number (set_at sets k size) n ≡ false) (node_at graph.nodes at).kids → ((n : ℕ) → has_number set n ≡ false) → IsNodeFaults graph skips evidence costs groups at set
no_fault_below graph skips evidence costs groups at size sets set ok node room long faults no_child none = record {
  sound = λ n lt e. absurd (false≢true (sym (none n) ∙ e));
  whole = λ n lt c.
      let var = c.meets.1.var in
      let child = child-with (mentions graph.nodes var) kids (sym (mention var) ∙ c.meets.1.among) in
      let below = all-below at kids child.item (fits-at graph.vars graph.nodes at ok.nodes.fit node.within).below child.is_in in
      let wider = λ (v : ℕ) (e : mentions graph.nodes v child.item ≡ true). mention v ∙ any-child (mentions graph.nodes v) kids child.item child.is_in e in
      let less = cost_among-le (fault_weights evidence costs) (λ v. mentions graph.nodes v child.item) (λ v. mentions graph.nodes v at) c.by wider in
      let cost = cost_among (fault_weights evidence costs) (λ v. mentions graph.nodes v child.item) c.by in
      let truth = all-child (λ k. is_true (living graph.nodes skips) k c.by) kids child.item child.is_in (sym (true_if c.by) ∙ c.meets.0) in
      let has = (faults child.item below).whole cost (omega (arith, less, c.cost_is, lt, long, length-words_at sets (child.item * size) size (omega (arith, room, block-below child.item at size below)))) (record { by = c.by; agrees = c.agrees; meets = (truth, moved c.meets.1 child.passes refl); cost_is = refl }) in
      absurd (false≢true (sym (all_in (λ k. (n : ℕ) → has_number (set_at sets k size) n ≡ false) child.item kids no_child child.is_in cost) ∙ has));
} where
  kids : List ℕ
  kids = (node_at graph.nodes at).kids

  mention : (v : ℕ) → mentions graph.nodes v at ≡ list_any (λ b. b) (map (mentions graph.nodes v) kids)
  mention v = mention-is graph at kids ok node.within refl v ∙ ap (λ w. mention_by v w (map (mentions graph.nodes v) kids)) node.what_is

  true_if : (a : Assignment) → is_true (living graph.nodes skips) at a ≡ list_all (λ b. b) (map (λ k. is_true (living graph.nodes skips) k a) kids)
  true_if a = living-is graph skips ok at node.within node.lives a ∙ ap (λ w. truth_by a w (map (λ k. is_true (living graph.nodes skips) k a) kids)) node.what_is
