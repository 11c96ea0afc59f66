-- The names that occur twice in a list, and the least of them.
use Rattle.std.proofs.Common.{◌≡◌, ℕ, zero, suc, ◌+◌, ◌<◌, ◌≤◌, ◌⊎◌, inl, inr, Bool, true, false, List, [], ◌∷◌, length, get_or, Result, Err, refl, sym, ap, subst, ◌∙◌, arith}
use Rattle.std.specs.List.{sum_by}
use Rattle.std.specs.List.Sorted.{IsPermutation}
use Rattle.std.proofs.lemmas.List.Sorted.{sum_by-IsPermutation}
use Rattle.std.proofs.lemmas.List.Sums.{sum_by-cons}
use Rattle.text_rules.specs.Names.{Name, same_name, is_among}
use Rattle.text_rules.proofs.NameLemmas.{same_if_equal, equal_if_same}
use Rattle.state_rules.proofs.Members.{In, empty-none}
use Rattle.device_model.specs.declared.building.BuildError.{BuildError}
use Rattle.device_model.specs.Order.{sorted_distinct}
use Rattle.device_model.specs.Devices.{Device}
use Rattle.device_model.specs.Building.{repeated, unless_name}
use Rattle.device_model.proofs.NameOrder.{Below, Below-trans, Below-irreflexive, same, below, above, compared, same_name-other}
use Rattle.device_model.proofs.Ordered.{BelowAll, Below-among, Rises, Rises-sorted_distinct, among_sorted_distinct, sorted_distinct-has}
use Rattle.device_model.proofs.SortedLists.{itself, AtMost, AtMostAll, AtMost-among, Ascends}

-- the number of times that a name is in a list
abbrev pub one_if : Bool → ℕ
one_if true = 1
one_if false = 0

abbrev pub count : Name → List Name → ℕ
count m [] = 0
count m (n ∷ ns) = one_if (same_name m n) + count m ns

count-sum : (m : Name) (ns : List Name) → sum_by (λ n. one_if (same_name m n)) ns ≡ count m ns
count-sum m [] = refl
count-sum m (n ∷ ns) = sum_by-cons (λ n. one_if (same_name m n)) n ns ∙ ap (λ c. one_if (same_name m n) + c) (count-sum m ns)

pub count-permutation : (m : Name) (xs ys : List Name) → IsPermutation xs ys → count m ys ≡ count m xs
count-permutation m xs ys h = sym (count-sum m ys) ∙ sum_by-IsPermutation (λ n. one_if (same_name m n)) xs ys h ∙ count-sum m xs

count-same : (m n : Name) (ns : List Name) → m ≡ n → count m (n ∷ ns) ≡ 1 + count m ns
count-same m n ns e = rw (same_if_equal m n e) refl

count-other : (m n : Name) (ns : List Name) → (m ≡ n → ⊥) → count m (n ∷ ns) ≡ count m ns
count-other m n ns h = rw (same_name-other m n h) (omega arith)

-- two names are equal or not
pub same_or_other : (m n : Name) → (m ≡ n) ⊎ (m ≡ n → ⊥)
same_or_other m n = elim (compared m n) [
  | same e ↦ inl e
  | below l ↦ inr (λ e. grind (arith, Below-irreflexive))
  | above l ↦ inr (λ e. grind (arith, Below-irreflexive))
]

pub count-among : (m : Name) (ns : List Name) → In m ns → 1 ≤ count m ns
count-among m [] h = absurd h
count-among m (n ∷ ns) h = grind (arith, count-same, count-among m ns)

pub among_from_count : (m : Name) (ns : List Name) → 1 ≤ count m ns → In m ns
among_from_count m [] h = absurd (omega arith)
among_from_count m (n ∷ ns) h = grind (arith, same_or_other m n, count-other, among_from_count m ns)

-- the test of `is_among` and the fact
pub is_among-among : (n : Name) (ns : List Name) → In n ns → is_among ns n ≡ true
is_among-among n [] h = absurd h
is_among-among n (m ∷ ms) h = grind (arith, same_if_equal, is_among-among n ms)

pub among_from_test : (n : Name) (ns : List Name) → is_among ns n ≡ true → In n ns
among_from_test n [] h = cc
among_from_test n (m ∷ ms) h = grind (arith, equal_if_same, among_from_test n ms)

-- a repeated name occurs twice
pub twice_from_repeated : (ns : List Name) (m : Name) → In m (repeated ns) → 2 ≤ count m ns
twice_from_repeated [] m h = absurd h
twice_from_repeated (n ∷ ns) m h = grind (arith, among_from_test, count-same, count-among, twice_from_repeated ns m)

-- a name that occurs twice is repeated
pub repeated_from_twice : (ns : List Name) (m : Name) → 2 ≤ count m ns → In m (repeated ns)
repeated_from_twice [] m h = absurd (omega arith)
repeated_from_twice (n ∷ ns) m h = grind (arith, same_or_other m n, is_among-among, among_from_count m ns, count-same, count-other, repeated_from_twice ns m)

-- the least name that occurs twice
pub record IsLeastTwice (ns : List Name) (n : Name) : Type 0 where
  twice : 2 ≤ count n ns
  least : (m : Name) → 2 ≤ count m ns → AtMost n m

least_first : (x y : Name) (ns : List Name) → AtMostAll x (y ∷ ns) → x ≡ y → IsLeastTwice (x ∷ y ∷ ns) x
least_first x y ns h e = record {
  twice = grind (arith, count-same);
  least = λ m t. grind (arith, among_from_count m (x ∷ y ∷ ns), AtMost-among x (y ∷ ns) m);
}

-- in an ascending list, a head that differs from its neighbour occurs nowhere else
head_alone : (x y : Name) (ns : List Name) → Ascends (x ∷ y ∷ ns) → (x ≡ y → ⊥) → BelowAll itself x (y ∷ ns)
head_alone x y ns h o = grind (arith, later x y ns)
  where
    later : (a b : Name) (ms : List Name) → Below a b → AtMostAll b ms → BelowAll itself a ms
    later a b [] l g = tt
    later a b (m ∷ ms) l g = grind (arith, Below-trans, later a b ms l g.1)

least_later : (x y : Name) (ns : List Name) → BelowAll itself x (y ∷ ns) → (n : Name) → IsLeastTwice (y ∷ ns) n → IsLeastTwice (x ∷ y ∷ ns) n
least_later x y ns alone n h = record {
  twice = grind arith;
  least = λ m t. grind (arith, same_or_other m x, Below-irreflexive, Below-among itself x (y ∷ ns) m alone, among_from_count m (y ∷ ns), count-same m x (y ∷ ns), count-other m x (y ∷ ns), h.least m);
}

-- the first two equal neighbours in an ascending list are the least name that occurs twice
pub first_repeat_is_least : (ns : List Name) (i : ℕ) → Ascends ns → suc i < length ns → get_or ns i [] ≡ get_or ns (suc i) []
    → ((k : ℕ) → k < i → get_or ns k [] ≡ get_or ns (suc k) [] → ⊥) → IsLeastTwice ns (get_or ns i [])
first_repeat_is_least [] i h l e before = absurd (omega arith)
first_repeat_is_least (x ∷ []) i h l e before = absurd (omega arith)
first_repeat_is_least (x ∷ y ∷ ns) zero h l e before = least_first x y ns h.0 e
first_repeat_is_least (x ∷ y ∷ ns) (suc i) h l e before =
    least_later x y ns (head_alone x y ns h (before 0 (omega arith))) (get_or (y ∷ ns) i [])
    (first_repeat_is_least (y ∷ ns) i h.1 (omega arith) e (λ k b. before (suc k) (omega arith)))

-- an ascending list rises if no two neighbours are equal
pub Rises-from_neighbours : (ns : List Name) → Ascends ns → ((k : ℕ) → suc k < length ns → get_or ns k [] ≡ get_or ns (suc k) [] → ⊥) → Rises itself ns
Rises-from_neighbours [] h o = tt
Rises-from_neighbours (x ∷ []) h o = (tt, tt)
Rises-from_neighbours (x ∷ y ∷ ns) h o = (head_alone x y ns h (o 0 (omega arith)), Rises-from_neighbours (y ∷ ns) h.1 (λ k l. o (suc k) (omega arith)))

pub once_in_rising : (ns : List Name) → Rises itself ns → (m : Name) → count m ns ≤ 1
once_in_rising [] h m = omega arith
once_in_rising (n ∷ ns) h m = grind (arith, same_or_other m n, count-same, count-other, once_in_rising ns h.1 m, Below-irreflexive, Below-among itself n ns m h.0, among_from_count m ns)

-- no name is repeated if a permutation of the names rises
pub repeated-rising : (xs ys : List Name) → IsPermutation xs ys → Rises itself ys → repeated xs ≡ []
repeated-rising xs ys p h = empty-none (repeated xs) (λ m k. omega (arith, twice_from_repeated xs m k, count-permutation m xs ys p, once_in_rising ys h m))

-- the first name in order is the least
sorted_distinct-first : (ns os : List Name) (n : Name) → sorted_distinct itself ns ≡ os → In n ns → ((m : Name) → In m ns → AtMost n m)
    → (error : Name → BuildError) (otherwise : Result Device BuildError) → unless_name error os otherwise ≡ Err (error n)
sorted_distinct-first ns [] n e there least error otherwise = let r = sorted_distinct-has itself ns n there in absurd (subst (In r.0) e r.1)
sorted_distinct-first ns (o ∷ os) n e there least error otherwise =
    let r = sorted_distinct-has itself ns n there in
    let up : Rises itself (o ∷ os) = subst (Rises itself) e (Rises-sorted_distinct itself ns) in
    let from : AtMost n o = least o (among_sorted_distinct itself ns o (subst (In o) (sym e) (inl refl))) in
    let to : In n (o ∷ os) = subst (λ (k : Name). In k (o ∷ os)) r.2 (subst (In r.0) e r.1) in
    grind (arith, Below-irreflexive n, Below-trans n o n, Below-among itself o os n up.0)

-- the error of the least name that occurs twice, if `ys` is a permutation of `xs`
pub unless_name-repeated : (xs ys : List Name) (i : ℕ) → IsPermutation xs ys → IsLeastTwice ys (get_or ys i [])
    → (error : Name → BuildError) (otherwise : Result Device BuildError) → unless_name error (sorted_distinct itself (repeated xs)) otherwise ≡ Err (error (get_or ys i []))
unless_name-repeated xs ys i p h =
    let n = get_or ys i [] in
    sorted_distinct-first (repeated xs) _ n refl (repeated_from_twice xs n (omega (arith, count-permutation n xs ys p, h.twice)))
    (λ m k. h.least m (omega (arith, twice_from_repeated xs m k, count-permutation m xs ys p)))
