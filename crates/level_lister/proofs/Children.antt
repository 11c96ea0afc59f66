-- What holds of a node, from what holds of the children before a place.
use Rattle.std.proofs.lemmas.Bool.Decides.{nat_tests}
use Rattle.std.proofs.Common.{◌≡◌, ◌≢◌, ℕ, zero, suc, ◌+◌, ◌-◌, ◌*◌, ◌<◌, ◌≤◌, Bool, true, false, cond, ◌&&◌, ◌||◌, List, [], ◌∷◌, ◌++◌, map, take, length, get_or, refl, ap, sym, ◌∙◌, arith}
use Rattle.std.specs.Prelude.{◌==◌}
use Rattle.std.specs.List.{list_all, list_any}
use Rattle.std.proofs.Math.Bool.{and_comm, or_comm, and-true}
use Rattle.std.proofs.lemmas.List.{map_more, take_all}
use Rattle.std.proofs.lemmas.List.Folds.{list_all-append}
use Rattle.minimiser.proofs.Derivations.{any-child}
use Rattle.state_rules.proofs.Members.{In-at}
use Rattle.state_rules.proofs.Lists.{any-push}
use Rattle.state_rules.specs.Assignments.{Assignment}
use Rattle.state_rules.specs.Bits.{same_bit}
use Rattle.state_rules.specs.declared.nodes.NodeKind.{NodeKind}
use Rattle.state_rules.specs.declared.nodes.NodeKind.TheVariants.{Literal, And, Or}
use Rattle.state_rules.specs.Graphs.{Graph, node_at, truth_by, mention_by, is_true, mentions, at_most_one, apart_at, IsGraph}
use Rattle.state_rules.proofs.NodesFit.{each_apart}
use Rattle.state_rules.proofs.Children.{at_most_one-tail, not_both}
use Rattle.conditioner.specs.declared.leaves.Leaf.{Leaf}
use Rattle.conditioner.specs.declared.leaves.Leaf.TheVariants.{False}
use Rattle.conditioner.specs.Evidence.{leaf_of}
use Rattle.minimiser.specs.Costs.{known_at, part_cost}
use Rattle.part_sets.specs.Numbers.{has_number}
use Rattle.part_sets.specs.PartSets.{SameBelow}
use Rattle.part_sets.proofs.Children.{mention-is, child-mentions}
use Rattle.node_costs.proofs.Tests.{same_tests}
use Rattle.level_lister.proofs.PartVariables.{Wider}
use Rattle.level_lister.specs.inner.CostSets.{IsCostSet}
use Rattle.level_lister.specs.inner.NodeSets.{IsNodeSet}
use Rattle.level_lister.specs.inner.Skips.{living}
use Rattle.level_lister.proofs.LivingNodes.{living-is, skipped-is}
use Rattle.level_lister.proofs.TestCosts.{empty_is, false_literal_is, literal_is}

all_push : (bs : List Bool) (b : Bool) → list_all (λ x. x) (bs ++ b ∷ []) ≡ (list_all (λ x. x) bs && b)
all_push bs b = list_all-append (λ x. x) bs (b ∷ []) ∙ ap (λ c. list_all (λ x. x) bs && c) (and-true b)

-- if at most one child is 1, a child and one before it are not both
pub apart_from : (f : ℕ → Bool) (kids : List ℕ) (j : ℕ) → at_most_one (map f kids) ≡ true → j < length kids → (list_any (λ x. x) (map f (take j kids)) && f (get_or kids j 0)) ≡ false
apart_from f [] j e lt = absurd (omega arith)
apart_from f (k ∷ kids) zero e lt = refl
apart_from f (k ∷ kids) (suc j) e lt = grind (arith, nat_tests, not_both (f k) (map f kids) e, any-child f kids (get_or kids j 0) (In-at kids j 0 (omega arith)), apart_from f kids j (at_most_one-tail (f k) (map f kids) e))

module _ (graph : Graph) (at : ℕ) (kids : List ℕ) (ok : IsGraph graph) (inside : at < length graph.nodes) (are : kids ≡ (node_at graph.nodes at).kids) where
  -- a child and those before it share no variable
  pub children_apart : (j : ℕ) → (node_at graph.nodes at).what ≡ And → j < length kids → (v : ℕ) → (list_any (λ b. b) (map (mentions graph.nodes v) (take j kids)) && mentions graph.nodes v (get_or kids j 0)) ≡ false
  children_apart j what lt v = apart_from (mentions graph.nodes v) kids j ((λ i. apart_at (mentions graph.nodes v) (sym what i) (are i)) ∙ each_apart (mentions graph.nodes v) graph.nodes at (ok.nodes.apart v) inside) lt

  pub apart_children : (j : ℕ) → (node_at graph.nodes at).what ≡ And → j < length kids → (v : ℕ) → (mentions graph.nodes v (get_or kids j 0) && list_any (λ b. b) (map (mentions graph.nodes v) (take j kids))) ≡ false
  apart_children j what lt v = and_comm (mentions graph.nodes v (get_or kids j 0)) (list_any (λ b. b) (map (mentions graph.nodes v) (take j kids))) ∙ children_apart j what lt v

  -- a child that lacks no part of an Or node
  pub child_full : (parts j : ℕ) → (node_at graph.nodes at).what ≡ Or → j < length kids → SameBelow graph parts at → Wider parts (λ v. mentions graph.nodes v (get_or kids j 0)) (λ v. mentions graph.nodes v at)
  child_full parts j what lt below = grind (arith, child-mentions)

  module _ (skips : List ℕ) (lives : get_or skips at 0 ≡ 0) where
    abbrev T : ℕ → Assignment → Bool
    T k a = is_true (living graph.nodes skips) k a

    abbrev M : ℕ → ℕ → Bool
    M k v = mentions graph.nodes v k

    -- the truth of a node, by its children
    truth-is : (a : Assignment) → T at a ≡ truth_by a (node_at graph.nodes at).what (map (λ k. T k a) kids)
    truth-is a = living-is graph skips ok at inside lives a ∙ ap (λ ks. truth_by a (node_at graph.nodes at).what (map (λ k. T k a) ks)) (sym are)

    truth-of : (what : NodeKind) → (node_at graph.nodes at).what ≡ what → (a : Assignment) → truth_by a what (map (λ k. T k a) kids) ≡ T at a
    truth-of what e a = sym (truth-is a ∙ ap (λ w. truth_by a w (map (λ k. T k a) kids)) e)

    mention-of : (what : NodeKind) → (node_at graph.nodes at).what ≡ what → (v : ℕ) → mention_by v what (map (mentions graph.nodes v) kids) ≡ M at v
    mention-of what e v = sym (mention-is graph at kids ok inside are v ∙ ap (λ w. mention_by v w (map (mentions graph.nodes v) kids)) e)

    -- what holds of a test and of variables, for one child after the other and for the node
    module _ (Is : (Assignment → Bool) → (ℕ → Bool) → Type 0) where
      pub literal_at : (var : ℕ) (positive : Bool) → Literal positive var ≡ (node_at graph.nodes at).what → Is (λ a. same_bit positive (a var)) (λ v. var == v) → Is (λ a. is_true (living graph.nodes skips) at a) (λ v. mentions graph.nodes v at)
      literal_at var positive what is = same_tests Is (truth-of (Literal positive var) (sym what)) (mention-of (Literal positive var) (sym what)) is

      pub and_next : (j : ℕ) → j < length kids → Is (λ a. list_all (λ b. b) (map (λ k. T k a) (take j kids)) && T (get_or kids j 0) a) (λ v. list_any (λ b. b) (map (mentions graph.nodes v) (take j kids)) || M (get_or kids j 0) v)
          → Is (λ a. list_all (λ b. b) (map (λ k. is_true (living graph.nodes skips) k a) (take (j + 1) kids))) (λ v. list_any (λ b. b) (map (mentions graph.nodes v) (take (j + 1) kids)))
      and_next j lt is = same_tests Is
          (λ a. sym (ap (list_all (λ b. b)) (map_more (λ k. T k a) kids j 0 lt) ∙ all_push (map (λ k. T k a) (take j kids)) (T (get_or kids j 0) a)))
          (λ v. sym (ap (list_any (λ b. b)) (map_more (mentions graph.nodes v) kids j 0 lt) ∙ any-push (λ x. x) (map (mentions graph.nodes v) (take j kids)) (M (get_or kids j 0) v))) is

      -- the same with this child before the others
      pub and_before : (j : ℕ) → j < length kids → Is (λ a. T (get_or kids j 0) a && list_all (λ b. b) (map (λ k. T k a) (take j kids))) (λ v. M (get_or kids j 0) v || list_any (λ b. b) (map (mentions graph.nodes v) (take j kids)))
          → Is (λ a. list_all (λ b. b) (map (λ k. is_true (living graph.nodes skips) k a) (take (j + 1) kids))) (λ v. list_any (λ b. b) (map (mentions graph.nodes v) (take (j + 1) kids)))
      and_before j lt is = and_next j lt (same_tests Is (λ a. and_comm (T (get_or kids j 0) a) (list_all (λ b. b) (map (λ k. T k a) (take j kids)))) (λ v. or_comm (M (get_or kids j 0) v) (list_any (λ b. b) (map (mentions graph.nodes v) (take j kids)))) is)

      pub and_end : (j : ℕ) → (node_at graph.nodes at).what ≡ And → length kids ≤ j → Is (λ a. list_all (λ b. b) (map (λ k. T k a) (take j kids))) (λ v. list_any (λ b. b) (map (mentions graph.nodes v) (take j kids)))
          → Is (λ a. is_true (living graph.nodes skips) at a) (λ v. mentions graph.nodes v at)
      and_end j what le is = grind (arith, take_all j kids le, truth-of And what, mention-of And what)

      pub or_next : (j : ℕ) → j < length kids → Is (λ a. list_any (λ b. b) (map (λ k. T k a) (take j kids)) || T (get_or kids j 0) a) (λ v. mentions graph.nodes v at)
          → Is (λ a. list_any (λ b. b) (map (λ k. is_true (living graph.nodes skips) k a) (take (j + 1) kids))) (λ v. mentions graph.nodes v at)
      or_next j lt is = same_tests Is (λ a. sym (ap (list_any (λ b. b)) (map_more (λ k. T k a) kids j 0 lt) ∙ any-push (λ x. x) (map (λ k. T k a) (take j kids)) (T (get_or kids j 0) a))) (λ v. refl) is

      pub or_end : (j : ℕ) → (node_at graph.nodes at).what ≡ Or → length kids ≤ j → Is (λ a. list_any (λ b. b) (map (λ k. T k a) (take j kids))) (λ v. mentions graph.nodes v at)
          → Is (λ a. is_true (living graph.nodes skips) at a) (λ v. mentions graph.nodes v at)
      or_end j what le is = same_tests Is (λ a. ap (λ ks. list_any (λ b. b) (map (λ k. T k a) ks)) (take_all j kids le) ∙ truth-of Or what a) (λ v. refl) is

    -- ---- a literal's set

    pub literal_set : (evidence costs : List ℕ) (var cost : ℕ) (positive : Bool) (leaf : Leaf) (set : List ℕ) → Literal positive var ≡ (node_at graph.nodes at).what → leaf ≡ leaf_of positive (known_at evidence var) → cost ≡ part_cost costs var
        → (leaf ≡ False → (n : ℕ) → has_number set n ≡ false) → ((leaf ≡ False → ⊥) → (n : ℕ) → n < 32 * length set → has_number set n ≡ (n == cond positive 0 cost)) → IsNodeSet graph skips evidence costs at set
    literal_set evidence costs var cost positive leaf set what is priced ruled_out allowed = literal_at (λ t m. IsCostSet evidence costs t m set) var positive what grind (arith, false_literal_is evidence costs var positive set, literal_is evidence costs var positive set)

-- a skipped node
pub skipped_set : (graph : Graph) (skips evidence costs : List ℕ) (at : ℕ) (set : List ℕ) → IsGraph graph → at < length graph.nodes → get_or skips at 0 ≢ 0 → ((n : ℕ) → has_number set n ≡ false) → IsNodeSet graph skips evidence costs at set
skipped_set graph skips evidence costs at set ok inside ne none = same_tests (λ t m. IsCostSet evidence costs t m set) (λ a. sym (skipped-is graph skips ok at inside ne a)) (λ v. refl) (empty_is evidence costs (λ v. mentions graph.nodes v at) set none)

-- the last node, if it lacks no part
pub root_full : (graph : Graph) (parts : ℕ) → ((v : ℕ) → 1 ≤ v → v ≤ parts → mentions graph.nodes v (length graph.nodes - 1) ≡ true) → Wider parts (λ v. mentions graph.nodes v (length graph.nodes - 1)) (λ v. true)
root_full graph parts all = record { within = λ v e. refl; same = λ v l h. all v l (omega arith) }
