-- What the bit of a variable does to clauses in turn, by those that it changes.
use Rattle.std.specs.Prelude.{ℕ, Bool, true, false, not, ◌&&◌, ◌||◌, List, [], ◌∷◌, ◌++◌, replicate, if◌then◌else◌}
use Rattle.forest_states.specs.inner.BitLists.{first_bit, other_bits}
use Rattle.forest_states.specs.declared.transition_tables.ClauseTransition.{ClauseTransition}
use Rattle.forest_states.specs.declared.transition_tables.Change.{Change}
use Rattle.forest_states.specs.declared.picks.Run.{Run}

abbrev pub true_at : ClauseTransition → Bool → Bool
true_at e false = e.true_at_0
true_at e true = e.true_at_1

-- what it does to a clause that stays as it is
abbrev pub plain : ClauseTransition
plain = record { fresh = false; true_at_0 = false; true_at_1 = false; ends = false }

abbrev pub is_plain : ClauseTransition → Bool
is_plain e = not (((e.fresh || e.true_at_0) || e.true_at_1) || e.ends)

-- Before each change a run of clauses stays as it is, and `rest` clauses after the last one.
abbrev pub spread : List Change → ℕ → List ClauseTransition
spread [] rest = replicate rest plain
spread (e ∷ changes) rest = replicate e.run plain ++ (e.transition ∷ spread changes rest)

-- what runs flag
abbrev pub flag_run : Run → List Bool
flag_run r = replicate r.others false ++ replicate r.count true

abbrev pub flags_in : List Run → Run → List Bool
flags_in [] last = flag_run last
flags_in (r ∷ runs) last = flag_run r ++ flags_in runs last

-- ---- all clauses at once

-- 1 for each flag, and elsewhere the bits of a state in turn
abbrev pub filled : List Bool → List Bool → List Bool
filled [] state = []
filled (f ∷ flags) state = if f then true ∷ filled flags state else first_bit state ∷ filled flags (other_bits state)

-- the bits that others have too, and those that they do not have
abbrev pub in_both : List Bool → List Bool → List Bool
in_both [] others = []
in_both (b ∷ bits) others = (b && first_bit others) ∷ in_both bits (other_bits others)

abbrev pub in_one : List Bool → List Bool → List Bool
in_one [] others = []
in_one (b ∷ bits) others = (b && not (first_bit others)) ∷ in_one bits (other_bits others)
