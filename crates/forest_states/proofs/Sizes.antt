-- How many bits the successors and the parts of states have.
use Rattle.std.proofs.Common.{◌≡◌, ℕ, ◌+◌, ◌&&◌, ◌||◌, not, Bool, true, false, List, [], ◌∷◌, map, length, refl, arith}
use Rattle.std.specs.Prelude.{Option, Some, None, IfSome, if◌then◌else◌}
use Rattle.std.specs.List.{filter}
use Rattle.forest_states.specs.declared.transition_tables.ClauseTransition.{ClauseTransition}
use Rattle.forest_states.specs.inner.BitLists.{first_bit, other_bits}
use Rattle.forest_states.specs.inner.TransitionTables.{true_at}
use Rattle.forest_states.specs.inner.Descents.{Met, ended, successor, picked, transitions_of, kept_of}

pub sized : (a b : Option (List Bool)) (n m : ℕ) → a ≡ b → n ≡ m → IfSome b (λ s. length s ≡ m) → IfSome a (λ s. length s ≡ n)
sized a b n m e f h = grind (arith, e, f, h)

-- one bit for each clause that does not end
ended-size : (ends b : Bool) (rest : Option (List Bool)) (n : ℕ) → IfSome rest (λ s. length s ≡ n) → IfSome (ended ends b rest) (λ s. length s ≡ (if ends then n else n + 1))
ended-size true true rest n h = tt
ended-size true false rest n h = h
ended-size false b None n h = tt
ended-size false b (Some s) n h = omega (arith, h)

pub successor-size : (bit : Bool) (ms : List Met) (state : List Bool) → IfSome (successor bit (transitions_of ms) state) (λ s. length s ≡ length (kept_of ms))
successor-size bit [] state = refl
successor-size bit (m ∷ ms) state =
    let e : ClauseTransition = m.transition in
    let next : List Bool = if e.fresh then state else other_bits state in
    sized _ _ _ (if e.ends then length (kept_of ms) else length (kept_of ms) + 1) refl (grind arith) (ended-size e.ends ((e.fresh || first_bit state) && not (true_at e bit)) _ (length (kept_of ms)) (successor-size bit ms next))

pub picked-size : (goes : ℕ → Bool) (ns : List ℕ) (state : List Bool) → length (picked (map goes ns) state) ≡ length (filter goes ns)
picked-size goes [] state = refl
picked-size goes (n ∷ ns) state = grind (arith, picked-size goes ns (other_bits state))
