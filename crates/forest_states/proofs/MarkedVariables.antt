-- Which variables are marked, and in which trees the others are.
use Rattle.std.proofs.Common.{◌≡◌, ℕ, zero, suc, ◌+◌, ◌-◌, ◌<◌, ◌≤◌, Bool, true, false, not, ◌||◌, List, [], ◌∷◌, ◌++◌, length, drop, set, replicate, get_or, get_or-set_same, get_or-set_other, refl, ap, sym, ◌∙◌, arith}
use Rattle.std.specs.Prelude.{◌==◌, nat_lt, if◌then◌else◌}
use Rattle.std.specs.List.{list_any, list_all}
use Rattle.std.proofs.lemmas.Bool.{false≢true, eqb-true}
use Rattle.std.proofs.lemmas.Bool.Decides.{nat_tests}
use Rattle.std.proofs.lemmas.List.{append_assoc, append-nil, length-set, drop_more}
use Rattle.std.proofs.lemmas.List.Folds.{list_any-append}
use Rattle.state_rules.specs.Bits.{bit_in}
use Rattle.clause_encoder.specs.Clauses.{Clause, var_of}
use Rattle.elimination_forests.specs.declared.steps.Step.{Step}
use Rattle.elimination_forests.specs.Forests.{Forest, none, tree, trees, steps_of, variables, is_among, meets, is_within, is_once, is_along}
use Rattle.elimination_forests.proofs.PassedClauses.{once_back, once_apart}
use Rattle.forest_states.specs.inner.Descents.{numbered, numbers_at, begun_at, within_marked}

pub all-wider : {X : Type 0} (p q : X → Bool) → ((x : X) → p x ≡ true → q x ≡ true) → (xs : List X) → list_all p xs ≡ true → list_all q xs ≡ true
all-wider p q h [] e = refl
all-wider p q h (x ∷ xs) e = grind (arith, h x, all-wider p q h xs)

among-wider : (xs ys : List ℕ) → ((u : ℕ) → is_among xs u ≡ true → is_among ys u ≡ true) → (c : Clause) → is_within xs c ≡ true → is_within ys c ≡ true
among-wider xs ys h c = all-wider (λ l. is_among xs (var_of l)) (λ l. is_among ys (var_of l)) (λ l. h (var_of l)) c

-- ---- a clause along a forest

pub along-closed : (f : Forest) (bound : List ℕ) (c : Clause) → is_along f bound c ≡ true → is_within (variables f ++ bound) c ≡ true
along-closed none bound c e = e
along-closed (tree v below beside) bound c e = grind (arith, along-closed below (v ∷ bound) c, along-closed beside bound c, among-wider (variables below ++ (v ∷ bound)) (variables (tree v below beside) ++ bound) below_wider c, among-wider (variables beside ++ bound) (variables (tree v below beside) ++ bound) beside_wider c) where
  below_wider : (u : ℕ) → is_among (variables below ++ (v ∷ bound)) u ≡ true → is_among (variables (tree v below beside) ++ bound) u ≡ true
  below_wider u h = grind (arith, list_any-append)

  beside_wider : (u : ℕ) → is_among (variables beside ++ bound) u ≡ true → is_among (variables (tree v below beside) ++ bound) u ≡ true
  beside_wider u h = grind (arith, list_any-append)

-- If all variables of a clause are in `ws` or `bs`, all are in `bs` exactly if it meets none of `ws`.
pub ends-there : (ws bs : List ℕ) → ((u : ℕ) → is_among ws u ≡ true → is_among bs u ≡ false) → (c : Clause) → is_within (ws ++ bs) c ≡ true → is_within bs c ≡ not (meets ws c)
ends-there ws bs apart [] e = refl
ends-there ws bs apart (l ∷ c) e = grind (arith, ends-there ws bs apart c, apart (var_of l), list_any-append)

-- ---- marks

pub mark-bit : (m : List Bool) (v u : ℕ) → u < length m → bit_in (set m v true) u ≡ ((v == u) || bit_in m u)
mark-bit m v u low = grind (arith, nat_tests, get_or-set_same, get_or-set_other)

pub no-mark : (n u : ℕ) → bit_in (replicate n false) u ≡ false
no-mark zero u = refl
no-mark (suc n) zero = refl
no-mark (suc n) (suc u) = no-mark n u

-- tests that agree on the variables of a clause
pub any-same : (scope : List ℕ) (size : ℕ) (p q : ℕ → Bool) → ((u : ℕ) → u < size → is_among scope u ≡ true → p u ≡ q u)
    → (c : Clause) → list_all (λ l. nat_lt (var_of l) size) c ≡ true → is_within scope c ≡ true → list_any (λ l. p (var_of l)) c ≡ list_any (λ l. q (var_of l)) c
any-same scope size p q same [] small closed = refl
any-same scope size p q same (l ∷ c) small closed = grind (arith, nat_tests, same (var_of l), any-same scope size p q same c)

-- clauses whose variables are marked as they are among others
module _ (scope vs : List ℕ) (marks : List Bool) (size : ℕ) (same : (u : ℕ) → u < size → is_among scope u ≡ true → bit_in marks u ≡ is_among vs u) where
  pub within-same : (v : ℕ) (c : Clause) → list_all (λ l. nat_lt (var_of l) size) c ≡ true → is_within scope c ≡ true → within_marked v marks c ≡ is_within (v ∷ vs) c
  within-same v [] small closed = refl
  within-same v (l ∷ c) small closed = grind (arith, nat_tests, same (var_of l), within-same v c)

-- ---- the numbers of trees

abbrev pub at_all : List ℕ → ℕ → List ℕ → List ℕ
at_all [] number m = m
at_all (v ∷ vs) number m = at_all vs number (set m v number)

-- the number of its tree at each variable
abbrev pub sided : ℕ → Forest → List ℕ → List ℕ
sided j none m = m
sided j (tree v below beside) m = sided (j + 1) beside (at_all (v ∷ variables below) j m)

all-append : (xs ys : List ℕ) (number : ℕ) (m : List ℕ) → at_all ys number (at_all xs number m) ≡ at_all (xs ++ ys) number m
all-append [] ys number m = refl
all-append (x ∷ xs) ys number m = all-append xs ys number (set m x number)

-- inside a tree
within-numbered : (k b : ℕ) (f : Forest) (n : ℕ) (rest : List Step) (m : List ℕ) → k ≤ n + b → numbered k b (trees f + n) (steps_of f ++ rest) m ≡ numbered k b n rest (at_all (variables f) (b - 1) m)
within-numbered k b none n rest m high = let same : 0 + n ≡ n = omega arith in ap (λ x. numbered k b x rest m) same
within-numbered k b (tree v below beside) n rest m high =
    grind (arith, nat_tests, append_assoc, within-numbered k b below (trees beside + n) (steps_of beside ++ rest) (set m v (b - 1)), within-numbered k b beside n rest (at_all (v ∷ variables below) (b - 1) m), all-append)

pub numbered-none : (k begun : ℕ) (steps : List Step) (m : List ℕ) → numbered k begun 0 steps m ≡ m
numbered-none k begun [] m = refl
numbered-none k begun (s ∷ steps) m = refl

-- side by side
pub beside-numbered : (k j : ℕ) (f : Forest) (rest : List Step) (m : List ℕ) → k ≡ j + trees f → numbered k j (trees f) (steps_of f ++ rest) m ≡ sided j f m
beside-numbered k j none rest m e = numbered-none k j rest m
beside-numbered k j (tree v below beside) rest m e =
    grind (arith, nat_tests, append_assoc, within-numbered k (j + 1) below (trees beside) (steps_of beside ++ rest) (set m v j), beside-numbered k (j + 1) beside rest (at_all (v ∷ variables below) j m))

all-read : (vs : List ℕ) (number : ℕ) (m : List ℕ) (u : ℕ) → u < length m → get_or (at_all vs number m) u 0 ≡ (if is_among vs u then number else get_or m u 0)
all-read [] number m u low = refl
all-read (v ∷ vs) number m u low = grind (arith, nat_tests, all-read vs number (set m v number) u, length-set m v number, get_or-set_same, get_or-set_other)

pub length-all : (vs : List ℕ) (number : ℕ) (m : List ℕ) → length (at_all vs number m) ≡ length m
length-all [] number m = refl
length-all (v ∷ vs) number m = length-all vs number (set m v number) ∙ length-set m v number

-- the number of the tree that has a variable
abbrev tree_of : Forest → ℕ → ℕ
tree_of none u = 0
tree_of (tree v below beside) u = if is_among (v ∷ variables below) u then 0 else suc (tree_of beside u)

-- Each variable has the number of its tree, and others have what was there.
sided-read : (f : Forest) (j : ℕ) (m : List ℕ) (u : ℕ) → u < length m → is_once (variables f) ≡ true
    → get_or (sided j f m) u 0 ≡ (if is_among (variables f) u then j + tree_of f u else get_or m u 0)
sided-read none j m u low once = refl
sided-read (tree v below beside) j m u low once =
    let own = v ∷ variables below in
    grind (arith, sided-read beside (j + 1) (at_all own j m) u, length-all own j m, once_back own (variables beside), once_apart own (variables beside) u once, all-read own j m u low, list_any-append)

-- the numbers say which variables each tree has
abbrev pub AreSides : Bool → List ℕ → List ℕ → ℕ → ℕ → Forest → Type 0
AreSides alone ws nums size j none = Unit {0}
AreSides alone ws nums size j (tree v below beside) =
    ((u : ℕ) → u < size → is_among ws u ≡ true → (alone || (get_or nums u 0 == j)) ≡ is_among (v ∷ variables below) u) × AreSides alone ws nums size (j + 1) beside

are-from : (ws nums : List ℕ) (size j : ℕ) (f : Forest) → is_once (variables f) ≡ true
    → ((u : ℕ) → u < size → is_among ws u ≡ true → is_among (variables f) u ≡ true → get_or nums u 0 ≡ j + tree_of f u)
    → ((u : ℕ) → u < size → is_among ws u ≡ true → is_among (variables f) u ≡ false → get_or nums u 0 < j) → AreSides false ws nums size j f
are-from ws nums size j none once own other = tt
are-from ws nums size j (tree v below beside) once own other = (
  (λ u low there. grind (arith, nat_tests, list_any-append, own u low there, other u low there)),
  are-from ws nums size (j + 1) beside (once_back (v ∷ variables below) (variables beside) once)
      (λ u low there h. grind (arith, list_any-append, own u low there, once_apart (v ∷ variables below) (variables beside) u once))
      (λ u low there h. grind (arith, list_any-append, own u low there, other u low there)),
)

-- a tree alone has all of them
only-are : (ws nums : List ℕ) (size j : ℕ) (f : Forest) → ((u : ℕ) → is_among ws u ≡ true → is_among (variables f) u ≡ true) → trees f ≡ 1 → AreSides true ws nums size j f
only-are ws nums size j none inside one = absurd (omega (arith, one))
only-are ws nums size j (tree v below none) inside one = ((λ u low there. sym (ap (λ vs. is_among vs u) (sym (append-nil (v ∷ variables below))) ∙ inside u there)), tt)
only-are ws nums size j (tree v below (tree x down beside)) inside one = absurd (omega (arith, one))

-- the numbers of the trees below a step
pub sides-are : (below : Forest) (rest : List Step) (m : List ℕ) → is_once (variables below) ≡ true
    → AreSides (trees below == 1) (variables below) (numbers_at (trees below) (steps_of below ++ rest) m) (length m) 0 below
sides-are below rest m once = by (trees below == 1) refl where
  by : (b : Bool) → (trees below == 1) ≡ b → AreSides b (variables below) (if b then m else numbered (trees below) 0 (trees below) (steps_of below ++ rest) m) (length m) 0 below
  by true e = only-are (variables below) m (length m) 0 below (λ u h. h) (eqb-true (trees below) 1 e)
  by false e = are-from (variables below) (numbered (trees below) 0 (trees below) (steps_of below ++ rest) m) (length m) 0 below once
      (λ u low there h. ap (λ ns. get_or ns u 0) (beside-numbered (trees below) 0 below rest m (omega arith)) ∙ sided-read below 0 m u low once ∙ ap (λ b. if b then 0 + tree_of below u else get_or m u 0) h)
      (λ u low there h. absurd (false≢true (sym h ∙ there)))

-- ---- the steps in turn

pub numbered-more : (k begun left : ℕ) (steps : List Step) (m : List ℕ) (i : ℕ) (d : Step) → i < length steps → (left ≡ 0 → ⊥)
    → numbered k begun left (drop i steps) m
    ≡ numbered k (begun_at k begun left) (left - 1 + (get_or steps i d).trees) (drop (i + 1) steps) (set m (get_or steps i d).var (begun_at k begun left - 1))
numbered-more k begun left steps m i d low some = grind (arith, nat_tests, drop_more steps i d low)
