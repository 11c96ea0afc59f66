-- Sets of which none has a part that the other has not.
use Rattle.std.proofs.Common.{◌≡◌, ℕ, ◌+◌, ◌<◌, ◌≤◌, Bool, false, not, ◌&&◌, List, length, get_or, set, arith}
use Rattle.std.specs.Prelude.{◌↔◌}
use Rattle.std.proofs.lemmas.List.{get_or-set_same, get_or-set_other}
use Rattle.state_rules.specs.Graphs.{Graph}
use Rattle.part_sets.specs.Numbers.{has_number}
use Rattle.part_sets.specs.PartSets.{ArePartsOf, LacksNone}

pub none_lacking : (parts : ℕ) (outer inner : List ℕ) (some more : ℕ → Bool) → ArePartsOf parts some inner → ArePartsOf parts more outer → ((v : ℕ) → 1 ≤ v → v ≤ parts → some v ≡ more v)
    → (p : ℕ) → p < parts → (has_number outer p && not (has_number inner p)) ≡ false
none_lacking parts outer inner some more on_inner on_outer same p lt = grind arith

-- the words of the nodes before `n`
abbrev pub AreFlags : Graph → ℕ → List ℕ → ℕ → Type 0
AreFlags graph parts lacking n = (k : ℕ) → k < n → (get_or lacking k 0 ≡ 0) ↔ LacksNone graph parts k

pub flags_more : (graph : Graph) (parts : ℕ) (lacking : List ℕ) (at word : ℕ) → at < length lacking → AreFlags graph parts lacking at → (word ≡ 0) ↔ LacksNone graph parts at → AreFlags graph parts (set lacking at word) (at + 1)
flags_more graph parts lacking at word lt are here k h = grind (arith, get_or-set_other, get_or-set_same)
