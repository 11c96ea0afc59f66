-- What two words say of a node, from what they say of its children.
use Rattle.std.proofs.Common.{◌≡◌, ◌≢◌, ℕ, ◌+◌, ◌-◌, ◌*◌, ◌/◌, ◌<◌, ◌≤◌, Bool, true, false, ◌&&◌, List, length, get_or, set, refl, ap, sym, ◌∙◌, subst, arith, inl, inr}
use Rattle.std.proofs.lemmas.Bool.Decides.{nat_tests}
use Rattle.std.specs.Prelude.{◌⊎◌, ◌==◌}
use Rattle.std.proofs.Math.ListN.{length-set}
use Rattle.std.proofs.lemmas.Bool.{cases_lt, cases_order, and_from, le-leb, eq-eqb, ne_eqb, false_from_ne_true, and_right}
use Rattle.std.proofs.lemmas.List.{get_or-set_same, get_or-set_other}
use Rattle.minimiser.proofs.Models.{Agree-bit}
use Rattle.state_rules.specs.Assignments.{Assignment}
use Rattle.state_rules.specs.Cases.{agrees_at}
use Rattle.state_rules.specs.Graphs.{Graph, IsGraph}
use Rattle.conditioner.specs.Evidence.{known_of, word_of}
use Rattle.minimiser.specs.Costs.{known_at}
use Rattle.level_lister.specs.declared.pairs.Pair.{Pair}
use Rattle.level_lister.specs.declared.groups.Groups.{Groups}
use Rattle.level_lister.specs.inner.Pairs.{Tells, TellsNode, TellNodes, pair_at, group_in, group_count}
use Rattle.level_lister.proofs.LivingNodes.{skipped-is}
use Rattle.level_lister.proofs.PartVariables.{Wider}
use Rattle.level_lister.proofs.TwoWords.{step_below, tells_same}

-- ---- groups

-- a variable of an open part of a group
pub record IsGrouped (evidence : List ℕ) (parts : ℕ) (groups : Groups) (g v : ℕ) : Type 0 where
  pub low : groups.low + 1 ≤ v
  pub high : v ≤ parts
  pub open_ : get_or evidence (v - 1) 0 ≡ 0
  pub group : (v - 1 - groups.low) / groups.size ≡ g

module _ (evidence : List ℕ) (parts : ℕ) (groups : Groups) (g v : ℕ) where
  pub grouped : group_in evidence parts groups g v ≡ true → IsGrouped evidence parts groups g v
  grouped e = grind arith

  pub in_group : IsGrouped evidence parts groups g v → group_in evidence parts groups g v ≡ true
  in_group is = and_from _ _ (and_from _ _ (le-leb (groups.low + 1) v is.low) (le-leb v parts is.high)) (and_from _ _ (eq-eqb _ 0 is.open_) (eq-eqb _ g is.group))

  pub not_grouped : (IsGrouped evidence parts groups g v → ⊥) → group_in evidence parts groups g v ≡ false
  not_grouped none = false_from_ne_true (group_in evidence parts groups g v) (λ e. none (grouped e))

pub on_parts : (evidence : List ℕ) (parts : ℕ) (groups : Groups) (g v : ℕ) → group_in evidence parts groups g v ≡ true → (1 ≤ v) × (v < 1 + parts)
on_parts evidence parts groups g v e = let is = grouped evidence parts groups g v e in (omega (arith, is.low), omega (arith, is.high))

-- what two words say of a test and of variables
abbrev pub Told : List ℕ → List ℕ → ℕ → Groups → Pair → (Assignment → Bool) → (ℕ → Bool) → Type 0
Told evidence costs top groups pair test some = Tells evidence costs top (group_count top) (group_in evidence (length costs) groups) test some pair

-- more variables, without further parts
pub wider_groups : (evidence costs : List ℕ) (top : ℕ) (groups : Groups) (pair : Pair) (t : Assignment → Bool) (some more : ℕ → Bool) → Wider (length costs) some more → Told evidence costs top groups pair t some → Told evidence costs top groups pair t more
wider_groups evidence costs top groups pair t some more wider is = tells_same evidence costs top (group_count top) (group_in evidence (length costs) groups) t t some more pair (on_parts evidence (length costs) groups) (λ a. refl) wider is

-- a skipped node
pub skipped_told : (graph : Graph) (skips evidence costs : List ℕ) (top : ℕ) (groups : Groups) (at : ℕ) → IsGraph graph → at < length graph.nodes → get_or skips at 0 ≢ 0
    → TellsNode graph skips evidence costs top groups at (record { costs = 0; faults = 0 })
skipped_told graph skips evidence costs top groups at ok inside ne = grind (arith, skipped-is)

-- ---- one part

-- the bit of a group at a cost
pub mark_is : (evidence : List ℕ) (parts : ℕ) (groups : Groups) (count n g cost part group : ℕ) → g < count → group < count → part < parts → groups.low ≤ part → get_or evidence part 0 ≡ 0 → group ≡ (part - groups.low) / groups.size
    → (count * n + g == count * cost + group) ≡ ((n == cost) && group_in evidence parts groups g (part + 1))
mark_is evidence parts groups count n g cost part group lt own within low open_ is = grind (arith, nat_tests, cases_order, ne_eqb, eq-eqb, step_below)

-- no group
pub none_marked : (evidence : List ℕ) (parts : ℕ) (groups : Groups) (g v : ℕ) (b : Bool) → (IsGrouped evidence parts groups g v → ⊥) → false ≡ (b && group_in evidence parts groups g v)
none_marked evidence parts groups g v b none = sym (and_right b _ (not_grouped evidence parts groups g v none))

-- ---- one node after the other

module _ (graph : Graph) (skips evidence costs : List ℕ) (top : ℕ) (groups : Groups) where
  pub nodes_more : (values : List ℕ) (at : ℕ) (pair : Pair) → 2 * at + 1 < length values → TellNodes graph skips evidence costs top groups values at → TellsNode graph skips evidence costs top groups at pair
      → TellNodes graph skips evidence costs top groups (set (set values (2 * at) pair.costs) (2 * at + 1) pair.faults) (at + 1)
  nodes_more values at pair room are is k lt = by_place (cases_lt k at) where
    apart : (i : ℕ) → (i ≡ 2 * at → ⊥) → (i ≡ 2 * at + 1 → ⊥) → get_or (set (set values (2 * at) pair.costs) (2 * at + 1) pair.faults) i 0 ≡ get_or values i 0
    apart i ne mo = get_or-set_other (set values (2 * at) pair.costs) (2 * at + 1) i pair.faults 0 mo ∙ get_or-set_other values (2 * at) i pair.costs 0 ne

    first : get_or (set (set values (2 * at) pair.costs) (2 * at + 1) pair.faults) (2 * at) 0 ≡ pair.costs
    first = get_or-set_other (set values (2 * at) pair.costs) (2 * at + 1) (2 * at) pair.faults 0 (λ e. absurd (omega arith)) ∙ get_or-set_same values (2 * at) pair.costs 0 (omega arith)

    second : get_or (set (set values (2 * at) pair.costs) (2 * at + 1) pair.faults) (2 * at + 1) 0 ≡ pair.faults
    second = get_or-set_same (set values (2 * at) pair.costs) (2 * at + 1) pair.faults 0 (omega (arith, length-set values (2 * at) pair.costs))

    by_place : (k < at) ⊎ (at ≤ k) → TellsNode graph skips evidence costs top groups k (pair_at (set (set values (2 * at) pair.costs) (2 * at + 1) pair.faults) k)
    by_place (inl p) = subst (TellsNode graph skips evidence costs top groups k)
        (λ i. record { costs = sym (apart (2 * k) (λ e. absurd (omega arith)) (λ e. absurd (omega arith))) i; faults = sym (apart (2 * k + 1) (λ e. absurd (omega arith)) (λ e. absurd (omega arith))) i }) (are k p)
    by_place (inr p) =
        let same : at ≡ k = omega arith in
        subst (λ j. TellsNode graph skips evidence costs top groups j (pair_at (set (set values (2 * at) pair.costs) (2 * at + 1) pair.faults) j)) same
        (subst (TellsNode graph skips evidence costs top groups at) (λ i. record { costs = sym first i; faults = sym second i }) is)

-- ---- words of a part

pub allowed_ok : (evidence : List ℕ) (part : ℕ) (word : ℕ) → get_or evidence part 0 ≡ word → word < 2 → agrees_at (known_at evidence (part + 1)) true ≡ true
allowed_ok evidence part word e lt = grind arith

-- what a word says
pub said : (evidence : List ℕ) (part : ℕ) (b : Bool) (a : Assignment) → get_or evidence part 0 ≡ word_of b → ((v : ℕ) → agrees_at (known_at evidence v) (a v) ≡ true) → a (part + 1) ≡ b
said evidence part b a e f = Agree-bit b (a (part + 1)) (sym (ap (λ k. agrees_at (known_of (get_or evidence k 0)) (a (part + 1))) (let g : part + 1 - 1 ≡ part = omega arith in g) ∙ ap (λ w. agrees_at (known_of w) (a (part + 1))) e) ∙ f (part + 1))
