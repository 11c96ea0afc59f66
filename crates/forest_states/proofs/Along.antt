-- One place of a forest: what happens to its lists happens to their states.
use Rattle.std.proofs.Common.{◌≡◌, ℕ, Bool, true, false, not, cond, List, [], ◌∷◌, ◌++◌, map, Some, None, get_or, refl, ap, ◌∙◌, arith}
use Rattle.std.specs.Prelude.{option_to_list, option_map, if◌then◌else◌}
use Rattle.std.specs.List.{filter, flat_map, position_or_len, AllByRecursion}
use Rattle.std.proofs.lemmas.Bool.{false≢true}
use Rattle.std.proofs.lemmas.List.{map-append}
use Rattle.std.proofs.lemmas.List.Folds.{list_any-append}
use Rattle.state_rules.proofs.Bits.{pointwise-refl, pointwise-equal}
use Rattle.state_rules.proofs.Lists.{AllByRecursion-append}
use Rattle.clause_encoder.specs.Clauses.{Clause, var_of}
use Rattle.elimination_forests.specs.Branches.{different, has_true, without, bits_of}
use Rattle.elimination_forests.proofs.ListCounts.{among-different}
use Rattle.elimination_forests.proofs.Lists.{is_among as is_listed, each-different}
use Rattle.elimination_forests.specs.Forests.{Forest, none, tree, trees, variables, is_among, meets, Place, is_dead_by, decided, part_of, part, number_in, begins, way_by, forks_at}
use Rattle.forest_states.specs.inner.BitLists.{is_same}
use Rattle.forest_states.specs.inner.Descents.{lead, successor, picked, decided_states, decided_forks, part_states, column, row_at, forks_found}
use Rattle.forest_states.proofs.OneClause.{is_active}
use Rattle.forest_states.proofs.BitsLeft.{IsKnown, Ends, table_of, unless, successor-same, known-next, bits-lists, picked-same, known-part}
use Rattle.forest_states.proofs.Mapped.{each-among, among-given, mapped-agree, mapped-twice, different-mapped, place-mapped}

abbrev pub at : List ℕ → List Clause → List (List Bool) → Place
at bound cs lists = record { bound = bound; clauses = cs; lists = lists }

-- the state of a list
abbrev pub state_of : List ℕ → List ℕ → List Clause → List Bool → List Bool
state_of vs bound cs list = bits_of (is_active vs bound) cs list

-- ---- the tree on a base with these variables

module _ (ws bound : List ℕ) (cs : List Clause) (lists : List (List Bool)) (known : AllByRecursion (IsKnown ws bound cs) lists) where
  abbrev states : List (List Bool)
  states = map (state_of ws bound cs) lists

  abbrev pub flags_of : List ℕ → List Bool
  flags_of own = map (meets own) (filter (is_active ws bound) cs)

  module _ (own : List ℕ) (inside : (c : Clause) → meets own c ≡ true → meets ws c ≡ true) where
    abbrev own_part : List Bool → List Bool
    own_part list = part_of own (at bound cs lists) list

    known-parts : (ls : List (List Bool)) → AllByRecursion (IsKnown ws bound cs) ls → AllByRecursion (IsKnown own bound cs) (map own_part ls)
    known-parts [] all = tt
    known-parts (l ∷ ls) all = (known-part ws bound own inside cs l all.0, known-parts ls all.1)

    parts-mapped : (ls : List (List Bool)) → AllByRecursion (IsKnown ws bound cs) ls
        → map (picked (flags_of own)) (map (state_of ws bound cs) ls) ≡ map (state_of own bound cs) (map own_part ls)
    parts-mapped [] all = refl
    parts-mapped (l ∷ ls) all = λ i. picked-same ws bound own inside cs l all.0 i ∷ parts-mapped ls all.1 i

    pub known-apart : AllByRecursion (IsKnown own bound cs) (part own (at bound cs lists)).lists
    known-apart = each-different (IsKnown own bound cs) (map own_part lists) (known-parts lists known)

    pub part-mapped : part_states (flags_of own) states ≡ map (state_of own bound cs) (part own (at bound cs lists)).lists
    part-mapped = ap different (parts-mapped lists known)
        ∙ different-mapped (IsKnown own bound cs) (state_of own bound cs) (λ x y p q e. bits-lists own bound cs x y p q e) (map own_part lists) (known-parts lists known)

    -- where the state of a list leads
    column-mapped : (list : List Bool) → IsKnown ws bound cs list
        → position_or_len (is_same (picked (flags_of own) (state_of ws bound cs list))) (part_states (flags_of own) states)
        ≡ number_in (part own (at bound cs lists)).lists (own_part list)
    column-mapped list it =
        (λ i. position_or_len (is_same (picked-same ws bound own inside cs list it i)) (part-mapped i))
        ∙ place-mapped (IsKnown own bound cs) (state_of own bound cs) (λ x y p q e. bits-lists own bound cs x y p q e) (own_part list)
        (known-part ws bound own inside cs list it) (part own (at bound cs lists)).lists known-apart

    -- at the number of a list
    read-mapped : (f : List Bool → ℕ) (ls : List (List Bool)) (x : List Bool) (d : ℕ) → is_listed ls x ≡ true → get_or (map f ls) (number_in ls x) d ≡ f x
    read-mapped f [] x d there = absurd (false≢true there)
    read-mapped f (l ∷ ls) x d there = grind (arith, pointwise-equal l x, read-mapped f ls x d)

    pub row-mapped : (list : List Bool) → is_listed lists list ≡ true → IsKnown ws bound cs list
        → get_or (column (flags_of own) states) (number_in lists list) (number_in lists list) ≡ number_in (part own (at bound cs lists)).lists (own_part list)
    row-mapped list there it =
        ap (λ xs. get_or xs (number_in lists list) (number_in lists list)) (mapped-twice _ (state_of ws bound cs) lists)
        ∙ read-mapped (λ l. position_or_len (is_same (picked (flags_of own) (state_of ws bound cs l))) (part_states (flags_of own) states)) lists list (number_in lists list) there
        ∙ column-mapped list it

  -- the columns of the trees side by side
  abbrev pub columns_of : Forest → List (List ℕ)
  columns_of none = []
  columns_of (tree v below beside) = column (flags_of (v ∷ variables below)) states ∷ columns_of beside

  pub meets_wider : (xs ys : List ℕ) → ((u : ℕ) → is_among xs u ≡ true → is_among ys u ≡ true) → (c : Clause) → meets xs c ≡ true → meets ys c ≡ true
  meets_wider xs ys h [] e = e
  meets_wider xs ys h (l ∷ c) e = grind (arith, h (var_of l), meets_wider xs ys h c)

  pub rows-mapped : (f : Forest) → ((u : ℕ) → is_among (variables f) u ≡ true → is_among ws u ≡ true) → (list : List Bool) → is_listed lists list ≡ true → IsKnown ws bound cs list
      → row_at (columns_of f) (number_in lists list) ≡ begins f (at bound cs lists) list
  rows-mapped none inside list there it = refl
  rows-mapped (tree v below beside) inside list there it =
      λ j. row-mapped (v ∷ variables below) (meets_wider (v ∷ variables below) ws (λ u e. inside u (grind (arith, list_any-append)))) list there it j
      ∷ rows-mapped beside (λ u e. inside u (grind (arith, list_any-append))) list there it j

-- ---- a variable is assigned

module _ (v : ℕ) (below : Forest) (bound : List ℕ) (cs : List Clause) (ends : AllByRecursion (Ends v (variables below) bound) cs) where
  abbrev ws : List ℕ
  ws = variables below

  abbrev left_by : Bool → List Bool → List Bool
  left_by bit list = without (has_true v bit) cs list

  abbrev is_dead : List Bool → Bool
  is_dead list = is_dead_by (v ∷ bound) cs list

  -- what a bit leaves, or nothing if it is dead
  abbrev alive_by : Bool → List Bool → List (List Bool)
  alive_by bit list = filter (λ next. not (is_dead next)) (left_by bit list ∷ [])

  abbrev either : List Bool → List (List Bool)
  either list = alive_by false list ++ alive_by true list

  abbrev base_state : List Bool → List Bool
  base_state list = state_of ws (v ∷ bound) cs list

  abbrev own_state : List Bool → List Bool
  own_state list = state_of (v ∷ ws) bound cs list

  successor-mapped : (bit : Bool) (list : List Bool) → IsKnown (v ∷ ws) bound cs list → option_to_list (successor bit (table_of v ws bound cs) (own_state list)) ≡ map base_state (alive_by bit list)
  successor-mapped bit list known = grind (arith, successor-same v ws bound bit cs list ends known)

  known-alive_by : (bit : Bool) (list : List Bool) → IsKnown (v ∷ ws) bound cs list → AllByRecursion (IsKnown ws (v ∷ bound) cs) (alive_by bit list)
  known-alive_by bit list known = by (is_dead (left_by bit list)) refl where
    by : (d : Bool) → is_dead (left_by bit list) ≡ d → AllByRecursion (IsKnown ws (v ∷ bound) cs) (cond (not d) (left_by bit list ∷ []) [])
    by true d = tt
    by false d = (known-next v ws bound bit cs list ends known d, tt)

  all-mapped : (lists : List (List Bool)) → AllByRecursion (IsKnown (v ∷ ws) bound cs) lists
      → flat_map (λ s. option_to_list (successor false (table_of v ws bound cs) s) ++ option_to_list (successor true (table_of v ws bound cs) s)) (map own_state lists) ≡ map base_state (flat_map either lists)
  all-mapped [] known = refl
  all-mapped (l ∷ lists) known = grind (arith, successor-mapped false l known.0, successor-mapped true l known.0, map-append, all-mapped lists known.1)

  known-all : (lists : List (List Bool)) → AllByRecursion (IsKnown (v ∷ ws) bound cs) lists → AllByRecursion (IsKnown ws (v ∷ bound) cs) (flat_map either lists)
  known-all [] known = tt
  known-all (l ∷ lists) known = AllByRecursion-append (IsKnown ws (v ∷ bound) cs) (either l) (flat_map either lists)
      (AllByRecursion-append (IsKnown ws (v ∷ bound) cs) (alive_by false l) (alive_by true l) (known-alive_by false l known.0) (known-alive_by true l known.0)) (known-all lists known.1)

  module _ (lists : List (List Bool)) (known : AllByRecursion (IsKnown (v ∷ ws) bound cs) lists) where
    pub known-decided : AllByRecursion (IsKnown ws (v ∷ bound) cs) (decided v (at bound cs lists)).lists
    known-decided = each-different (IsKnown ws (v ∷ bound) cs) (flat_map either lists) (known-all lists known)

    pub decided-mapped : decided_states (table_of v ws bound cs) (map own_state lists) ≡ map base_state (decided v (at bound cs lists)).lists
    decided-mapped = ap different (all-mapped lists known)
        ∙ different-mapped (IsKnown ws (v ∷ bound) cs) base_state (λ x y p q e. bits-lists ws (v ∷ bound) cs x y p q e) (flat_map either lists) (known-all lists known)

    abbrev ds : List (List Bool)
    ds = (decided v (at bound cs lists)).lists

    module _ (row : ℕ → List ℕ) (rows : (x : List Bool) → is_listed ds x ≡ true → IsKnown ws (v ∷ bound) cs x → row (number_in ds x) ≡ begins below (decided v (at bound cs lists)) x) where
      way-mapped : (bit : Bool) (list : List Bool) → is_listed lists list ≡ true → IsKnown (v ∷ ws) bound cs list
          → option_map row (lead (decided_states (table_of v ws bound cs) (map own_state lists)) (successor bit (table_of v ws bound cs) (own_state list))) ≡ way_by v below (at bound cs lists) bit list
      way-mapped bit list there it = (λ i. option_map row (lead (decided-mapped i) (successor-same v ws bound bit cs list ends it i))) ∙ by (is_dead next) refl where
        next : List Bool
        next = left_by bit list

        given : (b : Bool) → is_dead next ≡ false → b ≡ bit → is_listed (either list) next ≡ true
        given false d e = grind (arith, list_any-append, pointwise-refl next)
        given true d e = grind (arith, list_any-append, pointwise-refl next)

        by : (d : Bool) → is_dead next ≡ d → option_map row (lead (map base_state ds) (unless d (base_state next))) ≡ (if d then None else Some (begins below (decided v (at bound cs lists)) next))
        by true d = refl
        by false d =
            let known_next = known-next v ws bound bit cs list ends it d in
            ap (λ n. Some (row n)) (place-mapped (IsKnown ws (v ∷ bound) cs) base_state (λ x y p q e. bits-lists ws (v ∷ bound) cs x y p q e) next known_next ds known-decided)
            ∙ ap Some (rows next (among-different (flat_map either lists) next ∙ among-given either lists list next there (given bit d refl)) known_next)

      ways-mapped : (bit : Bool) → map (λ s. option_map row (lead (decided_states (table_of v ws bound cs) (map own_state lists)) (successor bit (table_of v ws bound cs) s))) (map own_state lists)
          ≡ map (way_by v below (at bound cs lists) bit) lists
      ways-mapped bit =
          mapped-twice _ own_state lists
          ∙ mapped-agree (λ x. (is_listed lists x ≡ true) × IsKnown (v ∷ ws) bound cs x) _ _ (λ x p. way-mapped bit x p.0 p.1) lists (each-among (IsKnown (v ∷ ws) bound cs) lists known)

      pub forks-mapped : forks_found (trees below) row (decided_forks (table_of v ws bound cs) (map own_state lists)) ≡ forks_at v below (at bound cs lists)
      forks-mapped =
          let zero = ap (map (option_map row)) (mapped-twice _ _ (map own_state lists)) ∙ mapped-twice _ _ (map own_state lists) ∙ ways-mapped false in
          let one = ap (map (option_map row)) (mapped-twice _ _ (map own_state lists)) ∙ mapped-twice _ _ (map own_state lists) ∙ ways-mapped true in
          λ j. record { zero = record { trees = trees below; ways = zero j }; one = record { trees = trees below; ways = one j } }
