-- The clauses that a bit meets, by their numbers: the active ones, and those that have the variable.
use Rattle.std.proofs.Common.{◌≡◌, ℕ, zero, suc, ◌+◌, ◌<◌, ◌≤◌, Bool, true, false, not, ◌||◌, cond, List, [], ◌∷◌, ◌++◌, map, length, take, drop, get_or, replicate, refl, ap, ◌∙◌, arith}
use Rattle.std.specs.Prelude.{if◌then◌else◌, nat_lt}
use Rattle.std.specs.List.{filter, prefix_len, range_with_len, AllByRecursion}
use Rattle.std.proofs.lemmas.Bool.{le-ltb, lt-ltb}
use Rattle.std.proofs.lemmas.List.{append_assoc, append-nil, length-drop, length-take-le, drop_more}
use Rattle.std.proofs.lemmas.List.Sums.{prefix_len-le-length}
use Rattle.elimination_forests.proofs.Lists.{each-filter}
use Rattle.forest_states.specs.declared.transition_tables.ClauseTransition.{ClauseTransition}
use Rattle.forest_states.specs.inner.TransitionTables.{plain}
use Rattle.forest_states.specs.inner.Descents.{Met, as_before, after, met, transitions_of, kept_of}

above-range : (a b n : ℕ) → a < b → AllByRecursion (λ x. a < x) (range_with_len b n)
above-range a b zero low = tt
above-range a b (suc n) low = (low, above-range a (b + 1) n (omega arith))

above-filter : (p : ℕ → Bool) (a n : ℕ) → AllByRecursion (λ x. a < x) (filter p (range_with_len (a + 1) n))
above-filter p a n = each-filter (λ x. a < x) (λ x. a < x) p (λ x h _. h) (range_with_len (a + 1) n) (above-range a (a + 1) n (omega arith))

module _ (transition : ℕ → ClauseTransition) where
  abbrev here : ℕ → Met
  here n = record { number = n; transition = transition n }

  -- an active clause that does not have the variable
  met-passed : (a : ℕ) (numbers active : List ℕ) → AllByRecursion (λ n. a < n) numbers → met transition numbers (a ∷ active) ≡ as_before a ∷ met transition numbers active
  met-passed a [] active above = refl
  met-passed a (n ∷ numbers) active above = λ j. map as_before (take (first j) (a ∷ active)) ++ (here n ∷ met transition numbers (after (transition n) (drop (first j) (a ∷ active)))) where
    first : prefix_len (λ o. nat_lt o n) (a ∷ active) ≡ suc (prefix_len (λ o. nat_lt o n) active)
    first = ap (λ b. cond b (1 + prefix_len (λ o. nat_lt o n) active) 0) (lt-ltb a n above.0) ∙ omega arith

  -- one that has it
  met-active : (a : ℕ) (numbers active : List ℕ) → (transition a).fresh ≡ false → met transition (a ∷ numbers) (a ∷ active) ≡ here a ∷ met transition numbers active
  met-active a numbers active fresh = grind (arith, le-ltb a a (omega arith))

  -- one that begins with it
  met-begun : (a : ℕ) (numbers active : List ℕ) → (transition a).fresh ≡ true → AllByRecursion (λ o. a < o) active → met transition (a ∷ numbers) active ≡ here a ∷ met transition numbers active
  met-begun a numbers active fresh above =
      (λ j. map as_before (take (none active above j) active) ++ (here a ∷ met transition numbers (after (transition a) (drop (none active above j) active))))
      ∙ (λ j. here a ∷ met transition numbers (if fresh j then active else drop 1 active)) where
        none : (os : List ℕ) → AllByRecursion (λ o. a < o) os → prefix_len (λ o. nat_lt o a) os ≡ 0
        none [] above = refl
        none (o ∷ os) above = ap (λ b. cond b (1 + prefix_len (λ o. nat_lt o a) os) 0) (le-ltb o a (omega (arith, above.0)))

  -- clause `n`, changed if it has the variable
  abbrev pub met_if : (ℕ → Bool) → ℕ → Met
  met_if has n = record { number = n; transition = if has n then transition n else plain }

  pub met-either : (active has : ℕ → Bool) (a n : ℕ) → ((k : ℕ) → k < a + n → has k ≡ true → (transition k).fresh ≡ not (active k))
      → met transition (filter has (range_with_len a n)) (filter active (range_with_len a n)) ≡ map (met_if has) (filter (λ k. active k || has k) (range_with_len a n))
  met-either active has a zero fresh = refl
  met-either active has a (suc n) fresh = grind (arith, met-either active has (a + 1) n (λ k h. fresh k (omega arith)), fresh a (omega arith), met-active a, met-passed a, met-begun a, above-filter has a n, above-filter active a n)

  pub kept-met : (has : ℕ → Bool) (ns : List ℕ) → kept_of (map (met_if has) ns) ≡ filter (λ n. not (met_if has n).transition.ends) ns
  kept-met has [] = refl
  kept-met has (n ∷ ns) = grind (arith, kept-met has ns)

-- ---- the clauses in turn

pub length-after : (e : ClauseTransition) (active : List ℕ) → length (after e active) ≤ length active
length-after e active = grind (arith, length-drop 1 active)

-- after those that stay as they are
transitions-after : (active : List ℕ) (ms : List Met) → transitions_of (map as_before active ++ ms) ≡ replicate (length active) plain ++ transitions_of ms
transitions-after [] ms = refl
transitions-after (o ∷ active) ms = ap (λ es. plain ∷ es) (transitions-after active ms)

kept-after : (active : List ℕ) (ms : List Met) → kept_of (map as_before active ++ ms) ≡ active ++ kept_of ms
kept-after [] ms = refl
kept-after (o ∷ active) ms = ap (λ ns. o ∷ ns) (kept-after active ms)

pub last-transitions : (active : List ℕ) → replicate (length active) plain ≡ transitions_of (map as_before active)
last-transitions active = grind (arith, transitions-after active [], append-nil)

pub last-kept : (active : List ℕ) → active ≡ kept_of (map as_before active)
last-kept active = grind (arith, kept-after active [], append-nil)

module _ (transition : ℕ → ClauseTransition) (numbers : List ℕ) (i : ℕ) (active : List ℕ) (low : i < length numbers) where
  abbrev n : ℕ
  n = get_or numbers i 0

  abbrev below : ℕ
  below = prefix_len (λ o. nat_lt o (get_or numbers i 0)) active

  abbrev later : List Met
  later = met transition (drop (i + 1) numbers) (after (transition n) (drop below active))

  met-next : met transition (drop i numbers) active ≡ map as_before (take below active) ++ (here transition n ∷ later)
  met-next = ap (λ ns. met transition ns active) (drop_more numbers i 0 low)

  pub transitions-next : (table : List ClauseTransition) → ((table ++ replicate below plain) ++ transition n ∷ []) ++ transitions_of later ≡ table ++ transitions_of (met transition (drop i numbers) active)
  transitions-next table = grind (arith, append_assoc, met-next, transitions-after (take below active) (here transition n ∷ later), length-take-le below active (prefix_len-le-length (λ o. nat_lt o n) active))

  pub kept-next : (kept : List ℕ) → ((kept ++ take below active) ++ (if not (transition n).ends then n ∷ [] else [])) ++ kept_of later ≡ kept ++ kept_of (met transition (drop i numbers) active)
  kept-next kept = grind (arith, append_assoc, met-next, kept-after (take below active) (here transition n ∷ later))
