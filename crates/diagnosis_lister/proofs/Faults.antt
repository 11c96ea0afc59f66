-- The number of faulty parts, while evidence and points are gone through.
use Rattle.std.proofs.Common.{◌≡◌, ℕ, zero, suc, ◌+◌, ◌<◌, ◌≤◌, Bool, false, not, cond, List, [], ◌∷◌, length, get_or, set, drop, arith}
use Rattle.std.specs.Prelude.{◌==◌}
use Rattle.std.proofs.Math.ListN.{length-map}
use Rattle.std.proofs.lemmas.List.Sums.{sum_by-cons, sum_by-drop_more, sum_by-take-drop, count_by-le-length}
use Rattle.state_rules.specs.Bits.{bit_in}
use Rattle.conditioner.specs.Evidence.{bits_of}
use Rattle.diagnosis_lister.specs.Listing.{fault_count}
use Rattle.diagnosis_lister.specs.inner.Fixing.{fixed_bits}

fault_count-cons : (b : Bool) (bits : List Bool) → fault_count (b ∷ bits) ≡ cond (not b) 1 0 + fault_count bits
fault_count-cons b bits = sum_by-cons (λ x. cond (not x) 1 0) b bits

abbrev fault_of : ℕ → ℕ
fault_of w = cond (not (not (w == 2))) 1 0

one-kept : (v w : ℕ) → (v ≡ 2 → w ≡ 2) → fault_of v ≤ fault_of w
one-kept v w kept = grind arith

-- if the words that say faulty still do, no fewer parts are faulty
pub faults-kept : (parts : ℕ) (old new : List ℕ) → length new ≡ length old → ((k : ℕ) → get_or old k 0 ≡ 2 → get_or new k 0 ≡ 2) → fault_count (fixed_bits parts old) ≤ fault_count (fixed_bits parts new)
faults-kept zero old new l kept = omega arith
faults-kept (suc n) [] new l kept = omega arith
faults-kept (suc n) (v ∷ old) [] l kept = absurd (omega arith)
faults-kept (suc n) (v ∷ old) (w ∷ new) l kept = omega (arith, fault_count-cons (not (v == 2)) (fixed_bits n old), fault_count-cons (not (w == 2)) (fixed_bits n new), one-kept v w (kept zero), faults-kept n old new (omega arith) (λ k e. kept (suc k) e))

-- an open part is fixed to faulty
pub faults-added : (parts : ℕ) (evidence : List ℕ) (i : ℕ) → i < parts → parts ≤ length evidence → get_or evidence i 0 ≡ 0 → fault_count (fixed_bits parts (set evidence i 2)) ≡ fault_count (fixed_bits parts evidence) + 1
faults-added zero evidence i h l e = absurd (omega arith)
faults-added (suc n) [] i h l e = absurd (omega arith)
faults-added (suc n) (w ∷ evidence) zero h l e = let none : fault_of w ≡ 0 = (λ i. fault_of (e i)) in omega (arith, none, fault_count-cons false (fixed_bits n evidence), fault_count-cons (not (w == 2)) (fixed_bits n evidence))
faults-added (suc n) (w ∷ evidence) (suc i) h l e = grind (arith, fault_count-cons, faults-added n evidence i)

-- no more parts are faulty than there are
pub faults-few : (state : List ℕ) → fault_count (bits_of state) ≤ length state
faults-few state = omega (arith, count_by-le-length not (bits_of state), length-map state (λ s. s == 0))

-- ---- going back over a point

faults-drop : (bits : List Bool) (i : ℕ) → i < length bits → fault_count (drop i bits) ≡ cond (not (bit_in bits i)) 1 0 + fault_count (drop (i + 1) bits)
faults-drop bits i h = sum_by-drop_more (λ x. cond (not x) 1 0) bits i false h

pub faults-at : (bits : List Bool) (i : ℕ) → i < length bits → bit_in bits i ≡ false → fault_count (drop i bits) ≡ fault_count (drop (i + 1) bits) + 1
faults-at bits i h e = omega (arith, rw e at (faults-drop bits i h))

pub faults-back : (bits : List Bool) (i : ℕ) → i < length bits → fault_count (drop (i + 1) bits) ≤ fault_count (drop i bits)
faults-back bits i h = omega (arith, faults-drop bits i h)

pub faults-all : (bits : List Bool) (i : ℕ) → fault_count (drop i bits) ≤ fault_count bits
faults-all bits i = omega (arith, sum_by-take-drop (λ x. cond (not x) 1 0) bits i)
