-- Sets of costs one after the other.
use Rattle.std.proofs.Common.{◌≡◌, ℕ, ◌+◌, ◌*◌, ◌<◌, List, ◌++◌, length, sym, subst, arith}
use Rattle.std.proofs.lemmas.Bool.Decides.{nat_tests}
use Rattle.std.proofs.lemmas.Bool.{cases_lt}
use Rattle.part_sets.specs.Numbers.{set_at}
use Rattle.scratch_pool.proofs.Counted.{block-below}
use Rattle.part_sets.proofs.Stacks.{set_at-front, set_at-here}

-- `Is` holds of each set
module _ (Is : ℕ → List ℕ → Type 0) (size : ℕ) where
  -- the sets before a node, and that of the node
  pub sets_more : (front set back : List ℕ) (at : ℕ) → length front ≡ at * size → length set ≡ size → ((k : ℕ) → k < at → Is k (set_at front k size)) → Is at set
      → (k : ℕ) → k < at + 1 → Is k (set_at (front ++ (set ++ back)) k size)
  sets_more front set back at h l are is k lt = grind (arith, nat_tests, Is, set_at-front, block-below, are, set_at-here, cases_lt)

  pub sets_before : (sets front back : List ℕ) (at : ℕ) → sets ≡ front ++ back → length front ≡ at * size → ((k : ℕ) → k < at → Is k (set_at sets k size)) → (k : ℕ) → k < at → Is k (set_at front k size)
  sets_before sets front back at e h are k lt = grind (arith, nat_tests, Is, set_at-front, block-below, are)

  -- words may follow
  pub sets_front : (front back : List ℕ) (n : ℕ) → length front ≡ n * size → ((k : ℕ) → k < n → Is k (set_at front k size)) → (k : ℕ) → k < n → Is k (set_at (front ++ back) k size)
  sets_front front back n h are k lt = subst (Is k) (sym (set_at-front front back k size (omega (arith, h, block-below k n size lt)))) (are k lt)

  -- and other words than before may
  pub sets_stay : (sets front back other : List ℕ) (n : ℕ) → sets ≡ front ++ back → length front ≡ n * size → ((k : ℕ) → k < n → Is k (set_at sets k size)) → (k : ℕ) → k < n → Is k (set_at (front ++ other) k size)
  sets_stay sets front back other n e h are = sets_front front other n h (sets_before sets front back n e h are)
