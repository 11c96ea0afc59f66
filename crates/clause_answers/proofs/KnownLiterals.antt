-- Literals that say what is known of variables.
use Rattle.std.proofs.Common.{◌≡◌, ℕ, ◌+◌, ◌<◌, ◌≤◌, true, ◌&&◌, List, [], ◌∷◌, ◌++◌, length, get_or, ℤ, refl, ap, ◌∙◌, arith, below_more}
use Rattle.std.proofs.lemmas.Bool.{and_parts}
use Rattle.std.proofs.lemmas.List.Folds.{list_all-append}
use Rattle.std.proofs.Math.Bool.{and-true}
use Rattle.state_rules.specs.Assignments.{Assignment}
use Rattle.state_rules.proofs.Lists.{list_all-at}
use Rattle.state_rules.specs.Cases.{agrees_at}
use Rattle.clause_encoder.specs.Clauses.{var_of}
use Rattle.conditioner.specs.Evidence.{known_of}
use Rattle.clause_search.specs.Searching.{holds, all_true, is_within, are_within}
use Rattle.clause_answers.specs.inner.Known.{IsRead}

-- a literal more
pub all_true-push : (a : Assignment) (literals : List ℤ) (l : ℤ) → all_true a (literals ++ l ∷ []) ≡ (all_true a literals && holds a l)
all_true-push a literals l = list_all-append (holds a) literals (l ∷ []) ∙ ap (λ b. all_true a literals && b) (and-true (holds a l))

pub within-push : (n : ℕ) (literals : List ℤ) (l : ℤ) → are_within n literals ≡ true → 1 ≤ var_of l → var_of l ≤ n → are_within n (literals ++ l ∷ []) ≡ true
within-push n literals l e h k = grind (arith, list_all-append (is_within n) literals (l ∷ []))

-- a greater number of variables
pub within-more : (n m : ℕ) (literals : List ℤ) → n ≤ m → are_within n literals ≡ true → are_within m literals ≡ true
within-more n m [] h e = refl
within-more n m (l ∷ literals) h e = grind (arith, within-more n m literals h)

pub ruleset added_steps = (all_true-push, within-push, within-more)

pub ruleset weighted_steps = (within-more)

pub read-none : (evidence : List ℕ) → IsRead evidence 0 []
read-none evidence = record { only = λ a e i h. absurd (omega arith); enough = λ a k. refl; few = omega arith; within = refl }

pub read-more : (evidence : List ℕ) (n : ℕ) (old new : List ℤ) → IsRead evidence n old
    → ((a : Assignment) → all_true a new ≡ (all_true a old && agrees_at (known_of (get_or evidence n 0)) (a (n + 1))))
    → length new ≤ length old + 1 → (are_within n old ≡ true → are_within (n + 1) new ≡ true) → IsRead evidence (n + 1) new
read-more evidence n old new r all few within = record {
  only = λ a e. let two = and_parts (all_true a old) (agrees_at (known_of (get_or evidence n 0)) (a (n + 1))) (grind (arith, all a)) in
      below_more (λ i. agrees_at (known_of (get_or evidence i 0)) (a (i + 1)) ≡ true) n (r.only a two.0) two.1;
  enough = λ a k. grind (arith, all a, r.enough a (λ i h. k i (omega arith)), k n (omega arith));
  few = omega (arith, r.few);
  within = within r.within;
}

pub ruleset read_steps = (read-none, read-more)

-- each of literals that are all true is true
pub true_at : (a : Assignment) (literals : List ℤ) (i : ℕ) (d l : ℤ) → all_true a literals ≡ true → i < length literals → l ≡ get_or literals i d → holds a l ≡ true
true_at a literals i d l e h is = ap (holds a) is ∙ list_all-at (holds a) literals i d e h

-- lists of literals one after the other
pub all_true-append : (a : Assignment) (xs ys : List ℤ) → all_true a (xs ++ ys) ≡ (all_true a xs && all_true a ys)
all_true-append a xs ys = list_all-append (holds a) xs ys

pub within-append : (n : ℕ) (xs ys : List ℤ) → are_within n (xs ++ ys) ≡ (are_within n xs && are_within n ys)
within-append n xs ys = list_all-append (is_within n) xs ys

pub ruleset assume_steps = (all_true-append, within-append, within-more)
