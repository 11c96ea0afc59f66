-- Which clauses of a list pass a test, and variables that occur once.
use Rattle.std.proofs.Common.{◌≡◌, ℕ, Bool, true, false, not, ◌&&◌, ◌||◌, List, [], ◌∷◌, ◌++◌, refl, ap, sym, ◌∙◌, arith}
use Rattle.std.specs.List.{list_all}
use Rattle.std.proofs.lemmas.Bool.{false≢true}
use Rattle.std.proofs.lemmas.Bool.Decides.{nat_tests}
use Rattle.std.proofs.lemmas.List.Folds.{list_any-append}
use Rattle.state_rules.proofs.Members.{In}
use Rattle.clause_encoder.specs.Clauses.{Clause}
use Rattle.elimination_forests.specs.Branches.{some_passes, without}
use Rattle.elimination_forests.specs.Forests.{is_among, meets, is_once}
use Rattle.elimination_forests.proofs.Lists.{all-at}

-- ---- lists of clauses

-- tests that agree where `r` fails, if no clause of the list passes `r`
pub agree : (r p q : Clause → Bool) → ((c : Clause) → r c ≡ false → p c ≡ q c) → (cs : List Clause) (list : List Bool) → some_passes r cs list ≡ false → some_passes p cs list ≡ some_passes q cs list
agree r p q h [] list e = refl
agree r p q h (c ∷ cs) [] e = refl
agree r p q h (c ∷ cs) (b ∷ list) e = grind (arith, h c, agree r p q h cs list)

pub fail_by : (p q : Clause → Bool) → ((c : Clause) → p c ≡ false → q c ≡ false) → (cs : List Clause) (list : List Bool) → some_passes p cs list ≡ false → some_passes q cs list ≡ false
fail_by p q h cs list e = sym (agree p p q (λ c f. f ∙ sym (h c f)) cs list e) ∙ e

pub passes_by : (p q : Clause → Bool) → ((c : Clause) → p c ≡ true → q c ≡ true) → (cs : List Clause) (list : List Bool) → some_passes p cs list ≡ true → some_passes q cs list ≡ true
passes_by p q h cs list e = grind (arith, fail_by)

pub passes_without : (p t : Clause → Bool) (cs : List Clause) (list : List Bool) → some_passes p cs (without t cs list) ≡ some_passes (λ c. not (t c) && p c) cs list
passes_without p t [] list = refl
passes_without p t (c ∷ cs) [] = refl
passes_without p t (c ∷ cs) (b ∷ list) = grind (arith, passes_without p t cs list)

pub passes_or : (p q : Clause → Bool) (cs : List Clause) (list : List Bool) → some_passes (λ c. p c || q c) cs list ≡ (some_passes p cs list || some_passes q cs list)
passes_or p q [] list = refl
passes_or p q (c ∷ cs) [] = refl
passes_or p q (c ∷ cs) (b ∷ list) = grind (arith, passes_or p q cs list)

-- if all clauses of a list pass `t`, then asking for `t` too changes nothing
pub passes_full : (t p : Clause → Bool) (cs : List Clause) (list : List Bool) → some_passes (λ c. not (t c)) cs list ≡ false → some_passes (λ c. t c && p c) cs list ≡ some_passes p cs list
passes_full t p = grind (arith, agree)

pub none_passes : (p : Clause → Bool) (cs : List Clause) (list : List Bool) → ((c : Clause) → In c cs → p c ≡ false) → some_passes p cs list ≡ false
none_passes p [] list h = refl
none_passes p (c ∷ cs) [] h = refl
none_passes p (c ∷ cs) (b ∷ list) h = grind (arith, none_passes p cs list)

pub all_fail : (p : Clause → Bool) (cs : List Clause) (list : List Bool) → list_all p cs ≡ true → some_passes (λ c. not (p c)) cs list ≡ false
all_fail p cs list e = none_passes (λ c. not (p c)) cs list (λ c m. ap not (all-at p c cs e m))

pub passes_never : (cs : List Clause) (list : List Bool) → some_passes (λ c. false) cs list ≡ false
passes_never cs list = none_passes (λ c. false) cs list (λ c m. refl)

-- ---- variables

pub meets-append : (xs ys : List ℕ) (c : Clause) → meets (xs ++ ys) c ≡ (meets xs c || meets ys c)
meets-append xs ys [] = refl
meets-append xs ys (l ∷ c) = grind (arith, list_any-append, meets-append xs ys c)

pub once_back : (xs ys : List ℕ) → is_once (xs ++ ys) ≡ true → is_once ys ≡ true
once_back [] ys e = e
once_back (x ∷ xs) ys e = grind (arith, once_back xs ys)

first_apart : (xs ys : List ℕ) (x : ℕ) → is_once (x ∷ (xs ++ ys)) ≡ true → (is_among xs x ≡ false) × (is_among ys x ≡ false)
first_apart xs ys x e = grind (arith, list_any-append)

pub once_front : (xs ys : List ℕ) → is_once (xs ++ ys) ≡ true → is_once xs ≡ true
once_front [] ys e = refl
once_front (x ∷ xs) ys e = grind (arith, first_apart, once_front xs ys)

pub once_apart : (xs ys : List ℕ) (u : ℕ) → is_once (xs ++ ys) ≡ true → is_among xs u ≡ true → is_among ys u ≡ false
once_apart [] ys u e f = absurd (false≢true f)
once_apart (x ∷ xs) ys u e f = grind (arith, nat_tests, first_apart xs ys x, once_apart xs ys u)
