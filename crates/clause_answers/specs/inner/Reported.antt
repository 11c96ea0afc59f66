-- What bits that were met show of parts and of wires.
use Rattle.std.specs.Prelude.{◌≡◌, ◌≢◌, ℕ, ◌+◌, ◌<◌, ◌⊎◌, Bool, true, false, List, length, slice_index, slice_index_or, ⊤}
use Rattle.state_rules.specs.Bits.{bit_in}
use Rattle.state_rules.specs.declared.blame.Blame.{Blame}
use Rattle.state_rules.specs.declared.blame.Blame.TheVariants.{Always, Sometimes, Never, Inconsistent}
use Rattle.state_rules.specs.Numbers.{cost_in}
use Rattle.clause_answers.specs.Questions.{Question, least_with}
use Rattle.clause_answers.specs.inner.Listed.{Meets}

-- bits in the range in which a part has a bit
pub record Seen (q : Question) (low high part : ℕ) (bit : Bool) : Type 0 where
  pub bits : List Bool
  pub meets : Meets q low high bits
  pub has : bit_in bits part ≡ bit

-- a part has a bit in all bits in the range
abbrev pub AllHave : Question → ℕ → ℕ → ℕ → Bool → Type 0
AllHave q low high part bit = (b : List Bool) → Meets q low high b → bit_in b part ≡ bit

-- what was seen of a part, by the verdict on the bits that were met
abbrev pub Notes : Question → ℕ → ℕ → ℕ → Blame → Type 0
Notes q low high part Always = Seen q low high part false
Notes q low high part Sometimes = Seen q low high part false × Seen q low high part true
Notes q low high part Never = Seen q low high part true
Notes q low high part Inconsistent = ⊥

-- the verdict holds for all bits in the range too
abbrev pub Settles : Question → ℕ → ℕ → ℕ → Blame → Type 0
Settles q low high part Always = AllHave q low high part false
Settles q low high part Sometimes = ⊤
Settles q low high part Never = AllHave q low high part true
Settles q low high part Inconsistent = ⊥

-- the verdict after one more state, in which the part is ok or not; nothing was seen before if it is inconsistent
abbrev pub noted : Blame → Bool → Blame
noted Always true = Sometimes
noted Always false = Always
noted Sometimes ok = Sometimes
noted Never true = Never
noted Never false = Sometimes
noted Inconsistent true = Never
noted Inconsistent false = Always

abbrev pub AreNoted : Question → ℕ → ℕ → List Blame → Type 0
AreNoted q low high verdicts = (part : ℕ) → part < length verdicts → Notes q low high part (slice_index_or verdicts part Inconsistent)

-- the first `n` verdicts are settled
abbrev pub AreSettled : Question → ℕ → ℕ → List Blame → ℕ → Type 0
AreSettled q low high verdicts n = (part : ℕ) → part < n → Settles q low high part (slice_index_or verdicts part Inconsistent)

-- ---- wires, whose variables come after the parts'

-- the number is the least cost if the variable after `place` others has a bit
abbrev pub IsRight : Question → ℕ → Bool → ℕ → Type 0
IsRight q place bit number = cost_in number ≡ least_with q (place + 1) bit

-- the numbers of the first `n` wires are right
abbrev pub AreRight : Question → Bool → List ℕ → ℕ → Type 0
AreRight q bit numbers n = (wire : ℕ) → wire < n → IsRight q (length q.costs + wire) bit (slice_index numbers wire)

-- each number is right, or the greatest one
abbrev pub AreOpen : Question → Bool → List ℕ → Type 0
AreOpen q bit numbers = (wire : ℕ) → wire < length numbers → slice_index numbers wire ≢ 4294967295 → IsRight q (length q.costs + wire) bit (slice_index numbers wire)

-- each number stays, or is right then
abbrev pub AreKept : Question → Bool → List ℕ → List ℕ → Type 0
AreKept q bit old new = (wire : ℕ) → wire < length old → (slice_index new wire ≡ slice_index old wire) ⊎ IsRight q (length q.costs + wire) bit (slice_index new wire)
