-- A state that is read bit by bit.
use Rattle.std.proofs.Common.{◌≡◌, ℕ, zero, suc, ◌+◌, Bool, true, false, not, ◌&&◌, ◌||◌, List, [], ◌∷◌, ◌++◌, drop, None, refl, ap, sym, ◌∙◌, arith}
use mir.Val.{bool_byte}
use Rattle.std.specs.Prelude.{Option, if◌then◌else◌}
use Rattle.std.proofs.lemmas.List.{append_assoc}
use Rattle.std.proofs.Math.Seq.{drop-nil}
use Rattle.state_rules.specs.Bits.{bit_in}
use Rattle.forest_states.specs.declared.transition_tables.ClauseTransition.{ClauseTransition}
use Rattle.forest_states.specs.inner.BitLists.{first_bit, other_bits}
use Rattle.forest_states.specs.inner.TransitionTables.{true_at}
use Rattle.forest_states.specs.inner.Descents.{ended, successor}
use Rattle.forest_states.proofs.Sets.{behind}

first-behind : (state : List Bool) (n : ℕ) → first_bit (drop n state) ≡ bit_in state n
first-behind [] zero = refl
first-behind [] (suc n) = refl
first-behind (b ∷ state) zero = refl
first-behind (b ∷ state) (suc n) = first-behind state n

others-behind : (state : List Bool) (n : ℕ) → other_bits (drop n state) ≡ drop (suc n) state
others-behind [] n = grind (arith, drop-nil {A = Bool} n)
others-behind (b ∷ state) zero = refl
others-behind (b ∷ state) (suc n) = others-behind state n

next-state : (fresh : Bool) (state : List Bool) (n : ℕ) → (if fresh then drop n state else other_bits (drop n state)) ≡ drop (n + bool_byte (not fresh)) state
next-state true state n = let same : n ≡ n + 0 = omega arith in ap (λ m. drop m state) same
next-state false state n = let next : suc n ≡ n + 1 = omega arith in others-behind state n ∙ ap (λ m. drop m state) next

-- ---- the successors of a state

-- at a transition
pub successor-transition : (bit : Bool) (e : ClauseTransition) (table : List ClauseTransition) (state : List Bool) (n : ℕ)
    → successor bit (e ∷ table) (drop n state)
    ≡ ended e.ends ((e.fresh || bit_in state n) && not (true_at e bit)) (successor bit table (drop (n + bool_byte (not e.fresh)) state))
successor-transition bit e table state n = λ j. ended e.ends ((e.fresh || first-behind state n j) && not (true_at e bit)) (successor bit table (next-state e.fresh state n j))

pub behind-kept : (ends b : Bool) (bits : List Bool) (rest : Option (List Bool)) → ends ≡ false → behind bits (ended ends b rest) ≡ behind (bits ++ b ∷ []) rest
behind-kept ends b bits rest e = grind (arith, append_assoc)

pub ended-passed : (ends b : Bool) (rest : Option (List Bool)) → ends ≡ true → b ≡ false → ended ends b rest ≡ rest
ended-passed ends b rest e f = λ j. ended (e j) (f j) rest

pub ended-dead : (ends b : Bool) (bits : List Bool) (rest : Option (List Bool)) → ends ≡ true → b ≡ true → None ≡ behind bits (ended ends b rest)
ended-dead ends b bits rest e f = sym (λ j. behind bits (ended (e j) (f j) rest))
