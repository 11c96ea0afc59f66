-- Sums of the costs of two sets.
use Rattle.std.proofs.Common.{◌≡◌, ℕ, ◌+◌, ◌-◌, ◌*◌, ◌/◌, ◌%◌, ◌^◌, ◌<◌, ◌≤◌, true, false, ◌||◌, List, length, get_or, ap, sym, ◌∙◌, subst, arith, ⊎_elim}
use Rattle.std.specs.Prelude.{nat_le, ◌==◌}
use Rattle.std.specs.Int.{bit_at}
use Rattle.std.proofs.lemmas.Bool.{cases_lt, and_parts, and_from, or_cases, or_left, or_right, le-leb, leb-true, false≢true}
use Rattle.node_costs.specs.Costs.{SumOf}
use Rattle.node_costs.proofs.Sets.{sum-flip}
use Rattle.part_sets.specs.Numbers.{has_number}
use Rattle.level_lister.specs.inner.CostSets.{has_shifted, AreSums}
use Rattle.part_sets.proofs.SetBits.{has-within}
use Rattle.level_lister.proofs.SetBits.{no_high}

-- no sum is added if the right set lacks the cost
pub sums_skip : (left right set : List ℕ) (cost : ℕ) → AreSums left right cost set → has_number right cost ≡ false → AreSums left right (cost + 1) set
sums_skip left right set cost are e = record {
  sound = are.sound;
  whole = λ j k f g lt h. ⊎_elim
      (λ (p : k < cost). are.whole j k f g p h)
      (λ (p : cost ≤ k). let same : k ≡ cost = omega arith in absurd (false≢true (sym e ∙ ap (has_number right) (sym same) ∙ g)))
      (cases_lt k cost);
}

pub sums_add : (left right old new : List ℕ) (cost : ℕ) → length new ≡ length old → AreSums left right cost old → has_number right cost ≡ true
    → ((n : ℕ) → n < 32 * length old → has_number new n ≡ (has_number old n || has_shifted left cost n)) → AreSums left right (cost + 1) new
sums_add left right old new cost long are e added = record {
  sound = λ n f. ⊎_elim (λ p. are.sound n p) (λ p. by_sum n p) (or_cases _ _ (sym (added n (omega (arith, has-within new n f, long))) ∙ f));
  whole = λ j k f g lt h. added (j + k) (omega arith) ∙ ⊎_elim
      (λ (p : k < cost). or_left _ _ (are.whole j k f g p (omega arith)))
      (λ (p : cost ≤ k). let back : j + k - cost ≡ j = omega arith in or_right _ _ (and_from _ _ (le-leb cost (j + k) (omega arith)) (ap (has_number left) back ∙ f)))
      (cases_lt k cost);
} where
  by_sum : (n : ℕ) → has_shifted left cost n ≡ true → SumOf (λ j. has_number left j ≡ true) (λ k. has_number right k ≡ true) n
  by_sum n p =
      let parts = and_parts (nat_le cost n) (has_number left (n - cost)) p in
      record { left = n - cost; right = cost; on_left = parts.1; on_right = e; sum_is = omega (arith, leb-true cost n parts.0) }

-- no sum is added if the word has no bit from `bit` on
pub sums_end : (left right set : List ℕ) (i bit : ℕ) → bit < 32 → get_or right i 0 / 2 ^ bit ≡ 0 → AreSums left right (32 * i + bit) set → AreSums left right (32 * (i + 1)) set
sums_end left right set i bit few e are = record {
  sound = are.sound;
  whole = λ j k f g lt h. ⊎_elim
      (λ (p : k < 32 * i + bit). are.whole j k f g p h)
      (λ (p : 32 * i + bit ≤ k). absurd (false≢true (sym (no_more k p lt) ∙ g)))
      (cases_lt k (32 * i + bit));
} where
  no_more : (k : ℕ) → 32 * i + bit ≤ k → k < 32 * (i + 1) → has_number right k ≡ false
  no_more k p lt =
      let place : k / 32 ≡ i = omega arith in
      let high : bit ≤ k % 32 = omega arith in
      ap (λ m. bit_at (get_or right m 0) (k % 32) == 1) place ∙ no_high (get_or right i 0) bit (k % 32) e high

-- the sums are the same, whichever set is moved by the other
pub sums_flip : (left right set : List ℕ) (from to : ℕ) → 32 * length left ≤ from → AreSums right left from set → AreSums left right to set
sums_flip left right set from to all are = record {
  sound = λ n e. sum-flip _ _ n (are.sound n e);
  whole = λ j k f g lt h. let same : k + j ≡ j + k = omega arith in
      subst (λ n. has_number set n ≡ true) same (are.whole k j g f (omega (arith, has-within left j f)) (omega arith));
}
