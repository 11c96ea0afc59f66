-- Marks in the evidence of a state, and what is written back.
use Rattle.std.proofs.Common.{◌≡◌, ℕ, zero, suc, ◌%◌, ◌<◌, ◌≤◌, Bool, true, false, not, cond, List, [], ◌∷◌, map, length, get_or, All, refl, ap, ◌∙◌, arith}
use Rattle.std.specs.Prelude.{◌==◌, if◌then◌else◌}
use Rattle.std.proofs.Math.ListN.{length-map}
use Rattle.state_rules.specs.Bits.{bit_in}
use Rattle.std.proofs.lemmas.List.{get_or_default}
use Rattle.conditioner.specs.Evidence.{bits_of}
use Rattle.diagnosis_lister.specs.inner.OpenMarks.{mark_of, marked_bits}
use Rattle.diagnosis_lister.specs.inner.Fixing.{fixed_bits}

mark_of-bit : (w s : ℕ) → s < 2 → mark_of w s % 2 ≡ s
mark_of-bit w s h = grind arith

pub marked-bits : (evidence state marks : List ℕ) → All (λ s. s < 2) state → length marks ≡ length state → ((k : ℕ) → k < length state → get_or marks k 0 ≡ mark_of (get_or evidence k 0) (get_or state k 0)) → marked_bits marks ≡ bits_of state
marked-bits evidence state marks small long marked = map_at marks state long (λ k h. (λ i. marked k h i % 2) ∙ mark_of-bit (get_or evidence k 0) (get_or state k 0) (small k 0 h)) where
  map_at : (xs ys : List ℕ) → length xs ≡ length ys → ((k : ℕ) → k < length ys → get_or xs k 0 % 2 ≡ get_or ys k 0) → map (λ m. m % 2 == 0) xs ≡ map (λ s. s == 0) ys
  map_at [] [] l e = refl
  map_at [] (y ∷ ys) l e = absurd (omega arith)
  map_at (x ∷ xs) [] l e = absurd (omega arith)
  map_at (x ∷ xs) (y ∷ ys) l e = let more = map_at xs ys (omega arith) (λ k h. e (suc k) (omega arith)) in λ i. (e zero (omega arith) i == 0) ∷ more i

-- what is written is the state that the evidence says
pub written-bits : (parts : ℕ) (fixed new : List ℕ) → length new ≡ parts → parts ≤ length fixed → ((k : ℕ) → k < parts → get_or new k 0 ≡ (if get_or fixed k 0 == 2 then 1 else 0)) → bits_of new ≡ fixed_bits parts fixed
written-bits parts fixed [] l h e = grind arith
written-bits zero fixed (x ∷ new) l h e = absurd (omega arith)
written-bits (suc n) [] (x ∷ new) l h e = absurd (omega arith)
written-bits (suc n) (w ∷ fixed) (x ∷ new) l h e =
    let more : bits_of new ≡ fixed_bits n fixed = written-bits n fixed new (omega arith) (omega arith) (λ k g. e (suc k) (omega arith)) in
    λ i. (ap (λ s. s == 0) (e zero (omega arith)) ∙ flip (w == 2)) i ∷ more i where
      flip : (b : Bool) → (cond b 1 0 == 0) ≡ not b
      flip true = refl
      flip false = refl

pub written-small : (new fixed : List ℕ) → ((k : ℕ) → k < length new → get_or new k 0 ≡ (if get_or fixed k 0 == 2 then 1 else 0)) → All (λ s. s < 2) new
written-small new fixed e k d h = grind (arith, get_or_default)

pub length-bits : (state : List ℕ) → length (bits_of state) ≡ length state
length-bits state = length-map state (λ s. s == 0)

-- ---- what a mark says

pub bit_in-marked : (marks : List ℕ) (i : ℕ) → i < length marks → bit_in (marked_bits marks) i ≡ (get_or marks i 0 % 2 == 0)
bit_in-marked [] i h = absurd (omega arith)
bit_in-marked (m ∷ marks) zero h = refl
bit_in-marked (m ∷ marks) (suc i) h = bit_in-marked marks i (omega arith)

pub length-marked : (marks : List ℕ) → length (marked_bits marks) ≡ length marks
length-marked marks = length-map marks (λ mark. mark % 2 == 0)
