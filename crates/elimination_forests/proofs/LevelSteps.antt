-- Steps from one level to the next, and lists with the same state: the base of the laws and of the sum.
use Rattle.std.proofs.Common.{◌≡◌, ℕ, zero, suc, ◌+◌, ◌*◌, ◌<◌, ◌≤◌, Bool, true, false, not, ◌&&◌, List, [], ◌∷◌, ◌++◌, map, length, take, drop, get_or, refl, ap, arith}
use Rattle.std.specs.List.{filter, flat_map}
use Rattle.std.proofs.lemmas.List.Folds.{flat_map-map}
use Rattle.std.proofs.lemmas.List.{take-append-drop, length-take, length-drop, length-append, nil_from_length}
use Rattle.state_rules.specs.Bits.{row_number, lists_of_bits}
use Rattle.state_rules.proofs.Bits.{pointwise-equal}
use Rattle.state_rules.proofs.Lists.{map-flat_map}
use Rattle.state_rules.proofs.Members.{In, In-map, In-filter, In-filtered, from_map, bits_in, bits_length}
use Rattle.clause_encoder.specs.Clauses.{Clause}
use Rattle.elimination_forests.specs.Branches.{order, has_true, is_left, left, is_touched, is_covered, is_active, some_passes, is_dead, different, living, bits_of, words_of, state_of, without, branch, IsLiving}
use Rattle.elimination_forests.proofs.Lists.{longer, lists_of_bits-more, flat_map_same, filter-flat_map, flat_map-filter, none-in, In-met, met-In, different-flat_map}
use Rattle.elimination_forests.proofs.VariableOrder.{AllOnce, first_met-once, untouched-left, covered-without, covered-more}
use Rattle.elimination_forests.proofs.PassedClauses.{passes_by, passes_without}

-- the living lists that a list leads to, by the bit 0 and then by 1
abbrev pub branches : List Clause → ℕ → List Bool → List (List Bool)
branches clauses i list =
    filter (λ next. not (is_dead clauses (i + 1) next)) (branch clauses i list false ∷ branch clauses i list true ∷ [])

-- ---- one more bit

pub no_bits : (vs : List ℕ) (c : Clause) → is_left vs [] c ≡ true
no_bits [] c = refl
no_bits (v ∷ vs) c = refl

-- A clause is left if it was, and the next bit does not make it true.
pub is_left-more : (vs : List ℕ) (bits : List Bool) (bit : Bool) (c : Clause) → length bits < length vs
    → is_left vs (bits ++ bit ∷ []) c ≡ (is_left vs bits c && not (has_true (get_or vs (length bits) 0) bit c))
is_left-more [] bits bit c h = absurd (omega arith)
is_left-more (v ∷ vs) [] bit c h = grind (arith, no_bits vs c)
is_left-more (v ∷ vs) (b ∷ bits) bit c h = grind (arith, is_left-more vs bits bit c (omega arith))

without-map : (f g test : Clause → Bool) → ((c : Clause) → f c ≡ (g c && not (test c))) → (cs : List Clause) → map f cs ≡ without test cs (map g cs)
without-map f g test h [] = refl
without-map f g test h (c ∷ cs) = λ i. h c i ∷ without-map f g test h cs i

pub left-next : (clauses : List Clause) (bits : List Bool) (bit : Bool) → length bits < length (order clauses)
    → left clauses (bits ++ bit ∷ []) ≡ branch clauses (length bits) (left clauses bits) bit
left-next clauses bits bit h = grind (arith, without-map, is_left-more)

pub order-once : (clauses : List Clause) → AllOnce (order clauses)
order-once clauses = first_met-once _

pub dead-next : (clauses : List Clause) (i : ℕ) (list : List Bool) (bit : Bool) → i < length (order clauses) → is_dead clauses i list ≡ true → is_dead clauses (i + 1) (branch clauses i list bit) ≡ true
dead-next clauses i list bit h e = grind (arith, passes_without, passes_by (is_covered (order clauses) i), covered-without (order clauses) i bit, covered-more (order clauses) i, order-once clauses)

-- ---- the living lists of the next level

-- what each bit leaves of a list
abbrev both : List Clause → ℕ → List Bool → List (List Bool)
both clauses i list = branch clauses i list false ∷ branch clauses i list true ∷ []

left-lists : (clauses : List Clause) (i : ℕ) → i < length (order clauses)
    → map (left clauses) (lists_of_bits (suc i)) ≡ flat_map (both clauses i) (map (left clauses) (lists_of_bits i))
left-lists clauses i h = grind (arith, lists_of_bits-more i, map-flat_map (left clauses) longer (lists_of_bits i), flat_map_same, bits_length i, flat_map-map (both clauses i) (left clauses) (lists_of_bits i), left-next clauses)

abbrev pub is_alive : List Clause → ℕ → List Bool → Bool
is_alive clauses i list = not (is_dead clauses i list)

pub living_lists-next : (clauses : List Clause) (i : ℕ) → i < length (order clauses) → living clauses (i + 1) ≡ different (flat_map (branches clauses i) (living clauses i))
living_lists-next clauses i h = grind (arith, left-lists, filter-flat_map, flat_map-filter, different-flat_map, dead-next)

pub living_are_living : (clauses : List Clause) (i : ℕ) (list : List Bool) → In list (living clauses i) → IsLiving clauses i list
living_are_living clauses i list m = grind (arith, In-filter, met-In, pointwise-equal, from_map, bits_length)

-- Each living list of a level is in `living`.
pub living-in : (clauses : List Clause) (i : ℕ) (list : List Bool) → IsLiving clauses i list → In list (living clauses i)
living-in clauses i list is = grind (arith, In-map, bits_in, In-met, pointwise-equal, In-filtered)

-- What a bit leaves of a living list is living, unless it is dead.
pub living-next : (clauses : List Clause) (i : ℕ) (list : List Bool) (bit : Bool) → i < length (order clauses) → IsLiving clauses i list
    → is_dead clauses (i + 1) (branch clauses i list bit) ≡ false → IsLiving clauses (i + 1) (branch clauses i list bit)
living-next clauses i list bit low is alive = grind (arith, length-append is.bits (bit ∷ []), left-next clauses is.bits bit)

-- ---- lists with the same state

-- What is known of a list of a level: it has each clause without an assigned variable, and none whose variables are all assigned.
abbrev pub Known : List ℕ → ℕ → List Clause → List Bool → Type 0
Known vs i [] [] = Unit {0}
Known vs i [] (b ∷ list) = ⊥
Known vs i (c ∷ cs) [] = ⊥
Known vs i (c ∷ cs) (b ∷ list) = (is_touched vs i c ≡ false → b ≡ true) × (is_covered vs i c ≡ true → b ≡ false) × Known vs i cs list

known-left : (vs : List ℕ) (bits : List Bool) (cs : List Clause) → some_passes (is_covered vs (length bits)) cs (map (is_left vs bits) cs) ≡ false
    → Known vs (length bits) cs (map (is_left vs bits) cs)
known-left vs bits [] e = tt
known-left vs bits (c ∷ cs) e = grind (arith, known-left vs bits cs, untouched-left vs bits c, none-in)

pub known : (clauses : List Clause) (i : ℕ) (list : List Bool) → IsLiving clauses i list → Known (order clauses) i clauses list
known clauses i list h = grind (arith, known-left)

pub same-known : (vs : List ℕ) (i : ℕ) (cs : List Clause) (ks ls : List Bool) → Known vs i cs ks → Known vs i cs ls
    → bits_of (is_active vs i) cs ks ≡ bits_of (is_active vs i) cs ls → ks ≡ ls
same-known vs i [] ks ls h k e = grind arith
same-known vs i (c ∷ cs) [] ls h k e = absurd h
same-known vs i (c ∷ cs) (x ∷ ks) [] h k e = absurd k
same-known vs i (c ∷ cs) (x ∷ ks) (y ∷ ls) h k e = grind (arith, h.0, h.1, k.0, k.1, same-known vs i cs ks ls h.2 k.2)

number-same : (xs ys : List Bool) → length xs ≡ length ys → row_number xs ≡ row_number ys → xs ≡ ys
number-same [] [] h e = refl
number-same [] (y ∷ ys) h e = absurd (omega arith)
number-same (x ∷ xs) [] h e = absurd (omega arith)
number-same (x ∷ xs) (y ∷ ys) h e = grind (arith, number-same xs ys)

pub words-same : (n : ℕ) (xs ys : List Bool) → length xs ≡ length ys → length xs ≤ 64 * n → words_of n xs ≡ words_of n ys → xs ≡ ys
words-same zero xs ys h few e = grind (arith, nil_from_length)
words-same (suc n) xs ys h few e = grind (arith, number-same (take 64 xs) (take 64 ys), length-take 64 xs, length-take 64 ys, length-drop 64 xs, length-drop 64 ys, take-append-drop 64 xs, take-append-drop 64 ys, words-same n (drop 64 xs) (drop 64 ys))

pub length-bits_of : {X : Type 0} (test : X → Bool) (xs : List X) (list : List Bool) → length xs ≤ length list → length (bits_of test xs list) ≡ length (filter test xs)
length-bits_of test [] list h = refl
length-bits_of test (x ∷ xs) [] h = absurd (omega arith)
length-bits_of test (x ∷ xs) (b ∷ list) h = grind (arith, length-bits_of test xs list)

pub length-known : (vs : List ℕ) (i : ℕ) (cs : List Clause) (list : List Bool) → Known vs i cs list → length list ≡ length cs
length-known vs i [] list h = grind arith
length-known vs i (c ∷ cs) [] h = absurd h
length-known vs i (c ∷ cs) (b ∷ list) h = ap suc (length-known vs i cs list h.2)

pub length-state_bits : (clauses : List Clause) (i : ℕ) (list : List Bool) → IsLiving clauses i list
    → length (bits_of (is_active (order clauses) i) clauses list) ≡ length (filter (is_active (order clauses) i) clauses)
length-state_bits clauses i list h = length-bits_of (is_active (order clauses) i) clauses list (omega (arith, length-known (order clauses) i clauses list (known clauses i list h)))

pub equal_states-equal_lists : (clauses : List Clause) (i : ℕ) (ks ls : List Bool) → IsLiving clauses i ks → IsLiving clauses i ls → state_of clauses i ks ≡ state_of clauses i ls → ks ≡ ls
equal_states-equal_lists clauses i ks ls h k e = grind (arith, length-state_bits clauses i ks h, length-state_bits clauses i ls k, same-known (order clauses) i clauses ks ls (known clauses i ks h) (known clauses i ls k), words-same)
