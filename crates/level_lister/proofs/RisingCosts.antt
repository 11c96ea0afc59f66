-- The states listed by rising cost, and what comes after a point.
use Rattle.std.proofs.Common.{◌≡◌, ℕ, zero, suc, ◌+◌, ◌<◌, ◌≤◌, Bool, true, List, [], ◌∷◌, ◌++◌, length, get_or, Option, Some, None, refl, ap, sym, ◌∙◌, subst, arith, inl, inr, ⊎_elim}
use Rattle.std.proofs.lemmas.Bool.Decides.{nat_tests}
use Rattle.std.specs.Prelude.{◌⊎◌, ◌==◌}
use Rattle.std.specs.List.{filter, flat_map, range_with_len}
use Rattle.std.proofs.lemmas.Bool.{eqb-true}
use Rattle.state_rules.specs.Bits.{lists_of_bits}
use Rattle.state_rules.specs.Ranking.{cost, states}
use Rattle.state_rules.specs.Graphs.{Graph}
use Rattle.state_rules.proofs.Members.{In, In-append, In-append_left, In-append_right, In-filter, In-filtered, bits_in, bits_length, empty-none}
use Rattle.state_rules.proofs.Order.{not_both_before, Sorted, Sorted-states, Sorted-filter}
use Rattle.state_rules.specs.Levels.{of_cost, levels, is_level_before, levels_rest}
use Rattle.conditioner.specs.Models.{has_model, fits_evidence, models}
use Rattle.level_lister.specs.declared.levels.LevelStep.TheVariants.{Found, End}
use Rattle.level_lister.specs.Listing.{level_step}
use Rattle.level_lister.specs.inner.Searching.{IsListed, IsFirstLevel, is_later}
use Rattle.level_lister.proofs.FirstByCost.{same-before, before-cases}

-- ---- sorted by cost and then by order

module _ (costs : List ℕ) where
  abbrev pub Rising : List (List Bool) → Type 0
  Rising [] = Unit {0}
  Rising (x ∷ xs) = ((y : List Bool) → In y xs → is_level_before costs x y ≡ true) × Rising xs

  Rising-append : (xs ys : List (List Bool)) → Rising xs → Rising ys → ((x y : List Bool) → In x xs → In y ys → is_level_before costs x y ≡ true) → Rising (xs ++ ys)
  Rising-append [] ys s t h = t
  Rising-append (x ∷ xs) ys s t h = (
    λ y m. ⊎_elim (λ p. s.0 y p) (λ p. h x y (inl refl) p) (In-append y xs ys m),
    Rising-append xs ys s.1 t (λ a y p q. h a y (inr p) q),
  )

  pub Rising-filter : (p : List Bool → Bool) (xs : List (List Bool)) → Rising xs → Rising (filter p xs)
  Rising-filter p [] s = tt
  Rising-filter p (x ∷ xs) s = grind (arith, nat_tests, p, In-filter, Rising-filter p xs s.1)

  -- states of one cost
  Rising-same : (c : ℕ) (xs : List (List Bool)) → ((x : List Bool) → In x xs → cost costs x ≡ c) → Sorted xs → Rising xs
  Rising-same c [] e s = tt
  Rising-same c (x ∷ xs) e s = (λ y m. same-before costs x y (e x (inl refl) ∙ sym (e y (inr m))) (s.0 y m), Rising-same c xs (λ y m. e y (inr m)) s.1)

  of_cost-in : (hs : List (List Bool)) (c : ℕ) (h : List Bool) → In h (of_cost costs hs c) → In h hs × (cost costs h ≡ c)
  of_cost-in hs c h m = let r = In-filter (λ h. cost costs h == c) h hs m in (r.0, eqb-true (cost costs h) c r.1)

  -- the states of `n` costs, from `from` on
  abbrev pub some_levels : List (List Bool) → ℕ → ℕ → List (List Bool)
  some_levels hs from n = flat_map (of_cost costs hs) (range_with_len from n)

  pub some_levels-in : (hs : List (List Bool)) (from n : ℕ) (h : List Bool) → In h (some_levels hs from n) → In h hs × ((from ≤ cost costs h) × (cost costs h < from + n))
  some_levels-in hs from zero h m = absurd m
  some_levels-in hs from (suc n) h m = grind (arith, of_cost-in hs from h, In-append h (of_cost costs hs from) (some_levels hs (from + 1) n) m, some_levels-in hs (from + 1) n h)

  pub some_levels-has : (hs : List (List Bool)) (from n : ℕ) (h : List Bool) → In h hs → from ≤ cost costs h → cost costs h < from + n → In h (some_levels hs from n)
  some_levels-has hs from zero h m low high = absurd (omega arith)
  some_levels-has hs from (suc n) h m low high = grind (arith, nat_tests, In-append_left, In-filtered, In-append_right h (of_cost costs hs from) (some_levels hs (from + 1) n), some_levels-has hs (from + 1) n h)

  pub Rising-levels : (hs : List (List Bool)) (from n : ℕ) → Sorted hs → Rising (some_levels hs from n)
  Rising-levels hs from zero s = tt
  Rising-levels hs from (suc n) s = grind (arith, Rising-append (of_cost costs hs from) (some_levels hs (from + 1) n), Rising-same from (of_cost costs hs from), of_cost-in hs from, Sorted-filter, some_levels-in hs (from + 1) n, Rising-levels hs (from + 1) n s)

  not_both : (h k : List Bool) → is_level_before costs h k ≡ true → is_level_before costs k h ≡ true → ⊥
  not_both h k e f = grind (arith, nat_tests, before-cases, not_both_before)

  pub first-rising : (xs : List (List Bool)) (h d : List Bool) → Rising xs → In h xs → ((k : List Bool) → In k xs → (k ≡ h) ⊎ (is_level_before costs h k ≡ true)) → get_or xs 0 d ≡ h
  first-rising [] h d s m low = absurd m
  first-rising (x ∷ xs) h d s given low = grind (arith, nat_tests, not_both)

  -- ---- what comes after a point

  module _ (graph : Graph) (evidence : List ℕ) (top : ℕ) (point : Option (List Bool)) where
    abbrev pub ms : List (List Bool)
    ms = models graph evidence (length costs)

    abbrev pub later : List (List Bool)
    later = levels_rest costs (levels costs top ms) point

    abbrev pub Next : List Bool → Type 0
    Next h = IsListed graph evidence costs 0 top h × (is_later costs point h ≡ true)

    model-in : (h : List Bool) → length h ≡ length costs → has_model graph (fits_evidence evidence) (length costs) h ≡ true → In h ms
    model-in h l m = In-filtered (has_model graph (fits_evidence evidence) (length costs)) h (states (length costs)) (subst (λ n. In h (lists_of_bits n)) l (bits_in h)) m

    listed-in : (h : List Bool) → IsListed graph evidence costs 0 top h → In h (levels costs top ms)
    listed-in h l = some_levels-has ms 0 (top + 1) h (model-in h l.long l.model) (omega arith) (omega (arith, l.high))

    in-listed : (h : List Bool) → In h (levels costs top ms) → IsListed graph evidence costs 0 top h
    in-listed h m = grind (arith, some_levels-in ms 0 (top + 1) h m, In-filter, bits_length)

    next-in : (h : List Bool) → Next h → In h later
    next-in h n = grind (arith, nat_tests, listed-in, In-filtered)

    in-next : (h : List Bool) → In h later → Next h
    in-next h m = by_point point m where
      by_point : (o : Option (List Bool)) → In h (levels_rest costs (levels costs top ms) o) → IsListed graph evidence costs 0 top h × (is_later costs o h ≡ true)
      by_point None m = (in-listed h m, refl)
      by_point (Some p) m = let r = In-filter (is_level_before costs p) h (levels costs top ms) m in (in-listed h r.0, r.1)

    rising : Rising later
    rising = grind (arith, nat_tests, Rising-levels, Sorted-filter, Sorted-states, Rising-filter)

    pub next-first : (h d : List Bool) → IsFirstLevel costs Next h → h ≡ get_or later 0 d
    next-first h d is = sym (first-rising later h d rising (next-in h is.meets) (λ k m. is.before k (in-next k m)))

    pub next-none : ((h : List Bool) → Next h → ⊥) → later ≡ []
    next-none none = empty-none later (λ h m. none h (in-next h m))

    -- ---- the answers

    pub step-end : (ms ≡ [] → ⊥) → ((h : List Bool) → Next h → ⊥) → End ≡ level_step costs ms later
    step-end some none = grind (arith, nat_tests, some, next-none)

    pub step-found : (h : List Bool) → (ms ≡ [] → ⊥) → IsFirstLevel costs Next h → Found (cost costs h) ≡ level_step costs ms later
    step-found h some is = sym (by_list ms some later (next-in h is.meets) (sym (next-first h [] is))) where
      by_list : (xs : List (List Bool)) → (xs ≡ [] → ⊥) → (ys : List (List Bool)) → In h ys → get_or ys 0 [] ≡ h → level_step costs xs ys ≡ Found (cost costs h)
      by_list [] some ys m e = absurd (some refl)
      by_list (x ∷ xs) some [] m e = absurd m
      by_list (x ∷ xs) some (y ∷ ys) m e = ap (λ k. Found (cost costs k)) e

    -- if no state is allowed, none is listed
    pub none-none : ms ≡ [] → (h : List Bool) → Next h → ⊥
    none-none e h n = grind (arith, nat_tests, model-in)
