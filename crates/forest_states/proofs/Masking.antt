-- What a bit does to all clauses of a table at once.
use Rattle.std.proofs.Common.{◌≡◌, ℕ, zero, suc, ◌+◌, ◌*◌, ◌^◌, ◌<◌, Bool, true, false, not, ◌&&◌, ◌||◌, List, [], ◌∷◌, ◌++◌, map, length, drop, get_or, replicate, Some, None, refl, ap, sym, ◌∙◌, arith, bit_and}
use Rattle.std.specs.Prelude.{◌==◌, if◌then◌else◌}
use Rattle.std.specs.Int.{bit_at}
use Rattle.std.proofs.lemmas.Bool.Decides.{nat_tests}
use Rattle.std.proofs.lemmas.Nat.Bits.{bit_at-lt, same_from_bits}
use Rattle.std.proofs.lemmas.List.{append_assoc, append-nil, drop_more}
use Rattle.std.proofs.Math.Seq.{drop-nil}
use Rattle.state_rules.specs.Bits.{row_number, number_of_bit, bit_in}
use Rattle.state_rules.proofs.WordBits.{has_bit-and}
use Rattle.forest_states.specs.declared.transition_tables.ClauseTransition.{ClauseTransition}
use Rattle.forest_states.specs.declared.picks.Run.{Run}
use Rattle.forest_states.specs.inner.BitLists.{first_bit, other_bits, copied}
use Rattle.forest_states.specs.inner.TransitionTables.{true_at, plain, flag_run, flags_in, filled, in_both, in_one}
use Rattle.forest_states.specs.inner.Descents.{ended, successor, picked, left_by}
use Rattle.forest_states.proofs.WordBits.{number-bit}

-- ---- what runs fill

filled-others : (n : ℕ) (flags state : List Bool) → filled (replicate n false ++ flags) state ≡ copied n state ++ filled flags (drop n state)
filled-others zero flags state = refl
filled-others (suc n) flags state = grind (arith, filled-others n flags (other_bits state), drop-nil {A = Bool} n)

filled-count : (n : ℕ) (flags state : List Bool) → filled (replicate n true ++ flags) state ≡ replicate n true ++ filled flags state
filled-count zero flags state = refl
filled-count (suc n) flags state = ap (λ bits. true ∷ bits) (filled-count n flags state)

filled-run : (r : Run) (flags state : List Bool) → filled (flag_run r ++ flags) state ≡ (copied r.others state ++ replicate r.count true) ++ filled flags (drop r.others state)
filled-run r flags state = grind (arith, append_assoc, filled-others, filled-count)

pub filled-last : (r : Run) (bits state : List Bool) → bits ++ filled (flag_run r) state ≡ (bits ++ copied r.others state) ++ replicate r.count true
filled-last r bits state = ap (λ fs. bits ++ filled fs state) (sym (append-nil (flag_run r))) ∙ grind (arith, filled-run, append_assoc, append-nil)

-- the next run
pub filled-on : (runs : List Run) (last : Run) (k : ℕ) (r : Run) (bits state : List Bool) → k < length runs
    → bits ++ filled (flags_in (drop k runs) last) state
    ≡ ((bits ++ copied (get_or runs k r).others state) ++ replicate (get_or runs k r).count true) ++ filled (flags_in (drop (k + 1) runs) last) (drop (get_or runs k r).others state)
filled-on runs last k r bits state low = ap (λ rs. bits ++ filled (flags_in rs last) state) (drop_more runs k r low) ∙ grind (arith, filled-run, append_assoc)

-- ---- bits in words

both-at : (xs ys : List Bool) (i : ℕ) → bit_in (in_both xs ys) i ≡ (bit_in xs i && bit_in ys i)
both-at [] ys i = refl
both-at (x ∷ xs) [] zero = refl
both-at (x ∷ xs) [] (suc i) = both-at xs [] i
both-at (x ∷ xs) (y ∷ ys) zero = refl
both-at (x ∷ xs) (y ∷ ys) (suc i) = both-at xs ys i

same-bit : (n m i : ℕ) → (bit_at n i == 1) ≡ (bit_at m i == 1) → bit_at n i ≡ bit_at m i
same-bit n m i e = grind (arith, nat_tests, bit_at-lt n i, bit_at-lt m i)

pub row-both : (xs ys : List Bool) → bit_and (row_number xs) (row_number ys) ≡ row_number (in_both xs ys)
row-both xs ys = same_from_bits _ _ (λ i. same-bit (bit_and (row_number xs) (row_number ys)) (row_number (in_both xs ys)) i (
    has_bit-and (row_number xs) (row_number ys) i ∙ (λ j. number-bit xs i j && number-bit ys i j) ∙ sym (both-at xs ys i) ∙ sym (number-bit (in_both xs ys) i)))

split-bit : (a b : Bool) → number_of_bit (a && b) + number_of_bit (a && not b) ≡ number_of_bit a
split-bit a b = grind arith

pub row-one : (xs ys : List Bool) → row_number (in_both xs ys) + row_number (in_one xs ys) ≡ row_number xs
row-one [] ys = refl
row-one (x ∷ xs) ys = omega (arith, row-one xs (other_bits ys), split-bit x (first_bit ys))

pub row-ones : (n : ℕ) → row_number (replicate n true) + 1 ≡ 2 ^ n
row-ones zero = refl
row-ones (suc n) = let next : 2 ^ suc n ≡ 2 * 2 ^ n = grind arith in omega (arith, row-ones n, next)

row-none : (n : ℕ) → row_number (replicate n false) ≡ 0
row-none zero = refl
row-none (suc n) = omega (arith, row-none n)

pub row-padded : (bits : List Bool) (n : ℕ) → row_number (bits ++ replicate n false) ≡ row_number bits
row-padded [] n = row-none n
row-padded (b ∷ bits) n = omega (arith, row-padded bits n)

pub map-plain : (f : ClauseTransition → Bool) (table : List ClauseTransition) (n : ℕ) → map f (table ++ replicate n plain) ≡ map f table ++ replicate n (f plain)
map-plain f [] zero = refl
map-plain f [] (suc n) = ap (λ bits. f plain ∷ bits) (map-plain f [] n)
map-plain f (e ∷ table) n = ap (λ bits. f e ∷ bits) (map-plain f table n)

-- ---- the successors of a state

left-first : (ends b : Bool) (kept others left : List Bool) → ended ends b (left_by kept others left) ≡ left_by (not ends ∷ kept) (ends ∷ others) (b ∷ left)
left-first ends b kept others left = grind (arith, nat_tests)

one-first : (f t : Bool) (flags state others : List Bool)
    → in_one (filled (f ∷ flags) state) (t ∷ others) ≡ ((f || first_bit state) && not t) ∷ in_one (filled flags (if f then state else other_bits state)) others
one-first true t flags state others = refl
one-first false t flags state others = refl

pub successor-by : (bit : Bool) (table : List ClauseTransition) (state : List Bool)
    → successor bit table state ≡ left_by (map (λ e. not e.ends) table) (map (λ e. e.ends) table) (in_one (filled (map (λ e. e.fresh) table) state) (map (λ e. true_at e bit) table))
successor-by bit [] state = refl
successor-by bit (e ∷ table) state =
    let next : List Bool = if e.fresh then state else other_bits state in
    let left : Bool = (e.fresh || first_bit state) && not (true_at e bit) in
    ap (ended e.ends left) (successor-by bit table next)
    ∙ left-first e.ends left (map (λ x. not x.ends) table) (map (λ x. x.ends) table) _
    ∙ ap (left_by (map (λ x. not x.ends) (e ∷ table)) (map (λ x. x.ends) (e ∷ table))) (sym (one-first e.fresh (true_at e bit) (map (λ x. x.fresh) table) state (map (λ x. true_at x bit) table)))

-- by words: whether a clause that ends is left
module _ (kept others left : List Bool) where
  abbrev is_dead : Bool
  is_dead = not (row_number (in_both left others) == 0)

  pub left-dead : is_dead ≡ true → None ≡ left_by kept others left
  left-dead e = grind arith

  pub left-alive : is_dead ≡ false → Some (picked kept left) ≡ left_by kept others left
  left-alive e = grind arith
