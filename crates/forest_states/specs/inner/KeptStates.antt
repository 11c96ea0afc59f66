-- States of one length, as they are kept.
use Rattle.std.specs.Prelude.{◌<◌, ◌≤◌, ℕ, Bool, List, [], ◌∷◌, map}
use Rattle.std.specs.List.{AllByRecursion}
use Rattle.forest_states.specs.declared.states.Kept.{Kept}
use Rattle.forest_states.specs.declared.states.Kept.TheVariants.{Words, Lists}
use Rattle.forest_states.specs.inner.BitLists.{bits_in, AreBits}

pub record SizedLists : Type 0 where
  pub size : ℕ
  pub lists : List (List Bool)

-- the words of each state
abbrev pub kept_words : Kept → List (List ℕ)
kept_words (Words words) = map (λ w. w ∷ []) words.keys
kept_words (Lists lists) = map (λ l. l.items) lists.keys

abbrev pub kept_lists : ℕ → Kept → List (List Bool)
kept_lists size kept = map (bits_in size) (kept_words kept)

-- One word of each state is kept exactly if one is enough.
abbrev pub Fits : ℕ → Kept → Type 0
Fits size (Words words) = size < 64
Fits size (Lists lists) = 64 ≤ size

abbrev pub AreKept : ℕ → Kept → Type 0
AreKept size kept = Fits size kept × AllByRecursion (AreBits size) (kept_words kept)
