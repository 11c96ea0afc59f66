-- A step from one level to the next, clause by clause.
use Rattle.std.proofs.Common.{◌≡◌, ℕ, suc, ◌+◌, ◌<◌, ◌≤◌, Bool, true, false, not, ◌&&◌, ◌||◌, cond, List, [], ◌∷◌, ◌++◌, length, take, get_or, refl, ap, arith}
use mir.Val.{bool_byte}
use Rattle.std.specs.List.{filter}
use Rattle.std.proofs.lemmas.Bool.{false≢true}
use Rattle.std.proofs.lemmas.List.{append-nil, length-take-le, take_all}
use Rattle.std.proofs.lemmas.List.Filters.{length-filter_more}
use Rattle.state_rules.specs.Bits.{bit_in}
use Rattle.clause_encoder.specs.Clauses.{Clause}
use Rattle.elimination_forests.specs.Branches.{order, has_true, is_touched, is_covered, is_active, some_passes, is_dead, size, bits_of, words_of, state_of, without, branch, IsLiving}
use Rattle.elimination_forests.proofs.LevelSteps.{Known, known, length-known, length-bits_of}

-- ---- one more clause

some-more : (test : Clause → Bool) (cs : List Clause) (list : List Bool) (k : ℕ) → k < length cs → length list ≡ length cs
    → some_passes test (take (suc k) cs) list ≡ (some_passes test (take k cs) list || (get_or list k false && test (get_or cs k [])))
some-more test [] list k h e = absurd (omega arith)
some-more test (c ∷ cs) [] k h e = absurd (omega arith)
some-more test (c ∷ cs) (b ∷ list) k h e = grind (arith, some-more test cs list)

bits-more : (test : Clause → Bool) (cs : List Clause) (list : List Bool) (k : ℕ) → k < length cs → length list ≡ length cs
    → bits_of test (take (suc k) cs) list ≡ bits_of test (take k cs) list ++ cond (test (get_or cs k [])) (get_or list k false ∷ []) []
bits-more test [] list k h e = absurd (omega arith)
bits-more test (c ∷ cs) [] k h e = absurd (omega arith)
bits-more test (c ∷ cs) (b ∷ list) k h e = grind (arith, bits-more test cs list)

-- if clause `k` is in the list and passes, the list has a clause that passes
some-whole : (test : Clause → Bool) (cs : List Clause) (list : List Bool) (k : ℕ) → k < length cs → test (get_or cs k []) ≡ true → get_or list k false ≡ true → some_passes test cs list ≡ true
some-whole test [] list k h e f = absurd (omega arith)
some-whole test (c ∷ cs) [] k h e f = absurd (false≢true f)
some-whole test (c ∷ cs) (b ∷ list) k h e f = grind (arith, some-whole test cs list)

length-without : (test : Clause → Bool) (cs : List Clause) (list : List Bool) → length list ≡ length cs → length (without test cs list) ≡ length cs
length-without test [] list e = refl
length-without test (c ∷ cs) [] e = e
length-without test (c ∷ cs) (b ∷ list) e = ap suc (length-without test cs list (omega arith))

without-at : (test : Clause → Bool) (cs : List Clause) (list : List Bool) (k : ℕ) → k < length cs → length list ≡ length cs
    → get_or (without test cs list) k false ≡ (get_or list k false && not (test (get_or cs k [])))
without-at test [] list k h e = absurd (omega arith)
without-at test (c ∷ cs) [] k h e = absurd (omega arith)
without-at test (c ∷ cs) (b ∷ list) k h e = grind (arith, without-at test cs list)

-- Whether a clause is in the list of a state: yes if no variable of it is assigned, no if all are, and otherwise as its bit says.
in-list : (vs : List ℕ) (i : ℕ) (cs : List Clause) (list : List Bool) (k : ℕ) → Known vs i cs list → k < length cs
    → (not (is_covered vs i (get_or cs k [])) && (not (is_touched vs i (get_or cs k [])) || bit_in (bits_of (is_active vs i) cs list) (length (filter (is_active vs i) (take k cs))))) ≡ get_or list k false
in-list vs i [] list k h low = absurd (omega arith)
in-list vs i (c ∷ cs) [] k h low = absurd h
in-list vs i (c ∷ cs) (b ∷ list) k h low = grind (arith, in-list vs i cs list)

-- there is room for what is read and written
pub filter-room : (test : Clause → Bool) (cs : List Clause) (k : ℕ) → k < length cs → test (get_or cs k []) ≡ true → length (filter test (take k cs)) < length (filter test cs)
filter-room test [] k h e = absurd (omega arith)
filter-room test (c ∷ cs) k h e = grind (arith, filter-room test cs)

pub count-more : (test : Clause → Bool) (cs : List Clause) (k count r : ℕ) (b : Bool) → k < length cs → count ≡ length (filter test (take k cs)) → r ≡ bool_byte b → b ≡ test (get_or cs k [])
    → count + r ≡ length (filter test (take (k + 1) cs))
count-more test cs k count r b low e is t = grind (arith, length-filter_more test cs k [] low)

-- ---- what a step has done with the first `k` clauses

pub record Told (cs : List Clause) (i : ℕ) (bit : Bool) (next : List ℕ) (k : ℕ) (list : List Bool) : Type 0 where
  pub alive : some_passes (is_covered (order cs) (i + 1)) (take k cs) (branch cs i list bit) ≡ false
  pub words : next ≡ words_of (length next) (bits_of (is_active (order cs) (i + 1)) (take k cs) (branch cs i list bit))

pub record IsStepped (cs : List Clause) (i : ℕ) (bit : Bool) (state next : List ℕ) (k read written : ℕ) : Type 0 where
  pub reads : read ≡ length (filter (is_active (order cs) i) (take k cs))
  pub writes : written ≡ length (filter (is_active (order cs) (i + 1)) (take k cs))
  pub told : (list : List Bool) → IsLiving cs i list → state ≡ state_of cs i list → Told cs i bit next k list

-- `left` says whether clause `k` is left
abbrev pub IsLeft : List Clause → ℕ → Bool → List ℕ → ℕ → Bool → Type 0
IsLeft cs i bit state k left = (list : List Bool) → IsLiving cs i list → state ≡ state_of cs i list → left ≡ get_or (branch cs i list bit) k false

long : (cs : List Clause) (i : ℕ) (list : List Bool) → IsLiving cs i list → length list ≡ length cs
long cs i list lives = length-known (order cs) i cs list (known cs i list lives)

long-branch : (cs : List Clause) (i : ℕ) (list : List Bool) (bit : Bool) → IsLiving cs i list → length (branch cs i list bit) ≡ length cs
long-branch cs i list bit lives = length-without (has_true (get_or (order cs) i 0) bit) cs list (long cs i list lives)

pub left-at : (cs : List Clause) (vs : List ℕ) (i v : ℕ) (bit : Bool) (state : List ℕ) (k read : ℕ) (d : Clause) (was_in left : Bool)
    → k < length cs → vs ≡ order cs → d ≡ get_or cs k [] → v ≡ get_or (order cs) i 0 → length state ≡ size cs i → read ≡ length (filter (is_active (order cs) i) (take k cs))
    → ((bits : List Bool) → state ≡ words_of (length state) bits → was_in ≡ (not (is_covered vs i d) && (not (is_touched vs i d) || bit_in bits read)))
    → left ≡ (was_in && not (has_true v bit d)) → IsLeft cs i bit state k left
left-at cs vs i v bit state k read d was_in left low ordered e is many reads was rest list lives s = grind (arith, in-list, known, without-at, long)

pub stepped-none : (cs : List Clause) (i : ℕ) (bit : Bool) (state next : List ℕ) → next ≡ words_of (length next) [] → IsStepped cs i bit state next 0 0 0
stepped-none cs i bit state next e = grind arith

-- if a covered clause is left, the list is dead
pub stepped-dead : (cs : List Clause) (i : ℕ) (bit : Bool) (state : List ℕ) (k : ℕ) (left : Bool) → k < length cs → IsLeft cs i bit state k left → left ≡ true → is_covered (order cs) (i + 1) (get_or cs k []) ≡ true
    → (list : List Bool) → IsLiving cs i list → state ≡ state_of cs i list → is_dead cs (i + 1) (branch cs i list bit) ≡ true
stepped-dead cs i bit state k left low is e c list lives s = grind (arith, some-whole)

module _ (cs : List Clause) (i : ℕ) (bit : Bool) (state next : List ℕ) (k read written more : ℕ) (left : Bool) (low : k < length cs) (is : IsLeft cs i bit state k left) (h : IsStepped cs i bit state next k read written)
    (reads : more ≡ length (filter (is_active (order cs) i) (take (k + 1) cs))) where
  abbrev here : Clause
  here = get_or cs k []

  alive-more : (list : List Bool) → IsLiving cs i list → state ≡ state_of cs i list → (left && is_covered (order cs) (i + 1) here) ≡ false
      → some_passes (is_covered (order cs) (i + 1)) (take (k + 1) cs) (branch cs i list bit) ≡ false
  alive-more list lives s e = grind (arith, some-more, long-branch)

  bits-next : (list : List Bool) → IsLiving cs i list → (t : Bool) → is_active (order cs) (i + 1) here ≡ t
      → bits_of (is_active (order cs) (i + 1)) (take (k + 1) cs) (branch cs i list bit) ≡ bits_of (is_active (order cs) (i + 1)) (take k cs) (branch cs i list bit) ++ cond t (get_or (branch cs i list bit) k false ∷ []) []
  bits-next list lives t e = grind (arith, bits-more, long-branch)

  writes-more : (t : Bool) → is_active (order cs) (i + 1) here ≡ t → written + cond {A = ℕ} t 1 0 ≡ length (filter (is_active (order cs) (i + 1)) (take (k + 1) cs))
  writes-more t e = grind (arith, h.writes, length-filter_more (is_active (order cs) (i + 1)) cs k [] low)

  -- a clause that is active at the next level
  pub stepped-on : (after : List ℕ) → is_active (order cs) (i + 1) here ≡ true → length after ≡ length next
      → ((bits : List Bool) → length bits ≡ written → next ≡ words_of (length next) bits → after ≡ words_of (length next) (bits ++ left ∷ []))
      → IsStepped cs i bit state after (k + 1) more (written + 1)
  stepped-on after e same put = record {
    reads = reads;
    writes = writes-more true e;
    told = λ list lives s. grind (arith, is list lives s, h.told list lives s, alive-more list lives s, put (bits_of (is_active (order cs) (i + 1)) (take k cs) (branch cs i list bit)), length-bits_of, long-branch, length-take-le, bits-next list lives true e);
  }

  -- one that is not, and leaves the list living
  pub stepped-off : is_active (order cs) (i + 1) here ≡ false → (left && is_covered (order cs) (i + 1) here) ≡ false → IsStepped cs i bit state next (k + 1) more written
  stepped-off e rest = record { reads = reads; writes = grind (arith, writes-more false e); told = λ list lives s. grind (arith, h.told list lives s, alive-more list lives s rest, append-nil, bits-next list lives false e) }

-- after all clauses
pub stepped-all : (cs : List Clause) (i : ℕ) (bit : Bool) (state next : List ℕ) (k read written : ℕ) → length cs ≤ k → IsStepped cs i bit state next k read written
    → (list : List Bool) → IsLiving cs i list → state ≡ state_of cs i list → (is_dead cs (i + 1) (branch cs i list bit) ≡ false) × (next ≡ words_of (length next) (bits_of (is_active (order cs) (i + 1)) cs (branch cs i list bit)))
stepped-all cs i bit state next k read written all h list lives s = grind (arith, take_all)
