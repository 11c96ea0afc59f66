-- The parts below a node, from those below its children.
use Rattle.std.proofs.Common.{◌≡◌, ℕ, suc, ◌+◌, ◌*◌, ◌/◌, ◌%◌, ◌^◌, ◌<◌, Bool, ◌&&◌, ◌||◌, List, [], ◌∷◌, ◌++◌, map, take, length, get_or, set, arith, ◌⊎◌, bit_or}
use Rattle.std.specs.Prelude.{◌==◌, nat_lt}
use Rattle.std.specs.List.{list_any}
use Rattle.std.proofs.lemmas.List.{take_more, get_or-set_same, get_or-set_other}
use Rattle.state_rules.specs.declared.nodes.NodeKind.TheVariants.{Literal, And, Or}
use Rattle.state_rules.specs.Graphs.{Graph, node_at, mentions, IsGraph}
use Rattle.state_rules.proofs.WordBits.{has_bit-or, one_bit}
use Rattle.state_rules.proofs.Lists.{any-push}
use Rattle.scratch_pool.proofs.Counted.{block-below}
use Rattle.part_sets.specs.Numbers.{has_number, part_words, set_at}
use Rattle.part_sets.specs.PartSets.{ArePartsOf, ArePartsBelow}
use Rattle.part_sets.proofs.SetBits.{has-within, same_place}
use Rattle.part_sets.proofs.Children.{child-below, mention-is}
use Rattle.part_sets.proofs.Stacks.{set_at-front, set_at-here}

-- ---- one number more

pub added_one : (xs : List ℕ) (number n : ℕ) → number / 32 < length xs → has_number (set xs (number / 32) (bit_or (get_or xs (number / 32) 0) (1 * 2 ^ (number % 32) % 4294967296))) n ≡ (has_number xs n || (n == number))
added_one xs number n h = grind (arith, get_or-set_same, get_or-set_other, has_bit-or (get_or xs (number / 32) 0) (1 * 2 ^ (number % 32) % 4294967296) (n % 32), one_bit 32 (number % 32) (n % 32), same_place n number)

-- ---- the numbers of several sets

abbrev pub one_has : List ℕ → ℕ → ℕ → List ℕ → Bool
one_has sets size n kids = list_any (λ k. has_number (set_at sets k size) n) kids

pub joined_more : (sets kids old new : List ℕ) (j n : ℕ) → j < length kids → length new ≡ length old → has_number old n ≡ one_has sets (length old) n (take j kids)
    → has_number new n ≡ (has_number old n || has_number (set_at sets (get_or kids j 0) (length old)) n) → has_number new n ≡ one_has sets (length new) n (take (j + 1) kids)
joined_more sets kids old new j n lt long are added = grind (arith, take_more kids j 0, any-push)

-- ---- a node

-- what is below one of the children
any_below : (graph : Graph) (parts at n : ℕ) (sets kids : List ℕ) → ArePartsBelow graph parts sets at → ((j : ℕ) → j < length kids → get_or kids j 0 < at)
    → one_has sets (part_words parts) n kids ≡ (nat_lt n parts && list_any (λ b. b) (map (mentions graph.nodes (n + 1)) kids))
any_below graph parts at n sets [] are below = grind arith
any_below graph parts at n sets (k ∷ kids) are below = grind (arith, are k (below 0 (omega arith)) n, any_below graph parts at n sets kids are (λ j lt. below (suc j) (omega arith)))

module _ (graph : Graph) (at parts : ℕ) (kids : List ℕ) (ok : IsGraph graph) (inside : at < length graph.nodes) (are : kids ≡ (node_at graph.nodes at).kids) where
  pub joined_parts : (sets set : List ℕ) (size : ℕ) → size ≡ part_words parts → length set ≡ size → ArePartsBelow graph parts sets at → (And ≡ (node_at graph.nodes at).what) ⊎ (Or ≡ (node_at graph.nodes at).what)
      → ((n : ℕ) → n < 32 * size → has_number set n ≡ one_has sets size n kids) → ArePartsOf parts (λ v. mentions graph.nodes v at) set
  joined_parts sets set size fits long below what joined n =
      grind (arith, has-within, joined n, any_below graph parts at n sets kids below (child-below graph at kids ok inside are), mention-is graph at kids ok inside are (n + 1))

  pub variable_parts : (var : ℕ) (positive : Bool) (set : List ℕ) → Literal positive var ≡ (node_at graph.nodes at).what → ArePartsOf parts (λ v. var == v) set → ArePartsOf parts (λ v. mentions graph.nodes v at) set
  variable_parts var positive set what is n = grind (arith, is n, mention-is graph at kids ok inside are (n + 1))

-- ---- one node after the other

pub below_more : (graph : Graph) (parts : ℕ) (sets front rest set back : List ℕ) (at : ℕ) → sets ≡ front ++ rest → length front ≡ at * part_words parts → length set ≡ part_words parts → ArePartsBelow graph parts sets at
    → ArePartsOf parts (λ v. mentions graph.nodes v at) set → ArePartsBelow graph parts (front ++ (set ++ back)) (at + 1)
below_more graph parts sets front rest set back at e h l are is k lt = grind (arith, set_at-front, block-below, set_at-here)
