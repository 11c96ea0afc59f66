-- Lists and their states, if different known lists have different ones.
use Rattle.std.proofs.Common.{arith, ◌≡◌, ℕ, ◌+◌, Option, Some, Bool, true, not, ◌||◌, cond, List, [], ◌∷◌, ◌++◌, map, length, false, refl, ap, sym, ◌∙◌, subst}
use Rattle.std.specs.Prelude.{is_some, None, IfSome, nat_lt, option_to_list}
use Rattle.std.specs.List.{filter, flat_map, list_any, position_or_len, AllByRecursion}
use Rattle.std.proofs.lemmas.Bool.{false≢true, or_left, or_right}
use Rattle.std.proofs.lemmas.List.Folds.{list_any-append}
use Rattle.state_rules.proofs.Bits.{pointwise-refl, pointwise-equal}
use Rattle.elimination_forests.specs.Branches.{same_list, different}
use Rattle.elimination_forests.proofs.Lists.{is_among, each-different}
use Rattle.forest_states.specs.inner.BitLists.{is_same}
use Rattle.forest_states.specs.inner.Descents.{any_leads, ways_found, lead, successor, decided_states, decided_forks, Stand, row_at, table_at, stand_decided, columns_below, forks_below}
use Rattle.clause_encoder.specs.Clauses.{Clause}
use Rattle.elimination_forests.specs.declared.steps.Step.{Step}
use Rattle.forest_states.specs.declared.transition_tables.ClauseTransition.{ClauseTransition}
use Rattle.std.proofs.lemmas.Bool.Decides.{nat_tests}
use Rattle.forest_states.specs.declared.places.Fork.{Fork}
use Rattle.elimination_forests.specs.declared.forks.Forks.{Forks}
use Rattle.elimination_forests.specs.Forests.{has_way, leads_on}

-- ---- what is among lists

pub each-among : (P : List Bool → Type 0) (ls : List (List Bool)) → AllByRecursion P ls → AllByRecursion (λ x. (is_among ls x ≡ true) × P x) ls
each-among P [] all = tt
each-among P (l ∷ ls) all = ((or_left (same_list l l) (is_among ls l) (pointwise-refl l), all.0), wider ls (each-among P ls all.1)) where
  wider : (ms : List (List Bool)) → AllByRecursion (λ x. (is_among ls x ≡ true) × P x) ms → AllByRecursion (λ x. (is_among (l ∷ ls) x ≡ true) × P x) ms
  wider [] given = tt
  wider (m ∷ ms) given = ((or_right (same_list l m) (is_among ls m) given.0.0, given.0.1), wider ms given.1)

pub among-given : (f : List Bool → List (List Bool)) (ls : List (List Bool)) (l x : List Bool) → is_among ls l ≡ true → is_among (f l) x ≡ true → is_among (flat_map f ls) x ≡ true
among-given f [] l x there given = absurd (false≢true there)
among-given f (k ∷ ls) l x there given = grind (arith, list_any-append, pointwise-equal k l, among-given f ls l x)

pub mapped-agree : {X Y : Type 0} (P : X → Type 0) (f g : X → Y) → ((x : X) → P x → f x ≡ g x) → (xs : List X) → AllByRecursion P xs → map f xs ≡ map g xs
mapped-agree P f g same [] all = refl
mapped-agree P f g same (x ∷ xs) all = λ i. same x all.0 i ∷ mapped-agree P f g same xs all.1 i

pub mapped-twice : {X Y Z : Type 0} (f : Y → Z) (g : X → Y) (xs : List X) → map f (map g xs) ≡ map (λ x. f (g x)) xs
mapped-twice f g [] = refl
mapped-twice f g (x ∷ xs) = ap (λ ys. f (g x) ∷ ys) (mapped-twice f g xs)

-- ---- the states of known lists

module _ (P : List Bool → Type 0) (e : List Bool → List Bool) (same : (x y : List Bool) → P x → P y → e x ≡ e y → x ≡ y) where
  test-same : (x y : List Bool) → P x → P y → same_list (e x) (e y) ≡ same_list x y
  test-same x y p q = grind (arith, same x y p q, pointwise-equal (e x) (e y), pointwise-equal x y, pointwise-refl y, pointwise-refl (e y))

  filter-kept : (x : List Bool) → P x → (ls : List (List Bool)) → AllByRecursion P ls → map e (filter (λ y. not (same_list x y)) ls) ≡ filter (λ s. not (same_list (e x) s)) (map e ls)
  filter-kept x p [] all = refl
  filter-kept x p (l ∷ ls) all = grind (arith, filter-kept x p ls all.1, test-same x l p all.0)

  -- each once
  pub different-mapped : (ls : List (List Bool)) → AllByRecursion P ls → different (map e ls) ≡ map e (different ls)
  different-mapped [] all = refl
  different-mapped (l ∷ ls) all = ap (λ ss. e l ∷ filter (λ s. not (same_list (e l) s)) ss) (different-mapped ls all.1)
      ∙ ap (λ ss. e l ∷ ss) (sym (filter-kept l all.0 (different ls) (each-different P ls all.1)))

  -- and the place of one
  pub place-mapped : (x : List Bool) → P x → (ls : List (List Bool)) → AllByRecursion P ls → position_or_len (is_same (e x)) (map e ls) ≡ position_or_len (λ o. same_list o x) ls
  place-mapped x p [] all = refl
  place-mapped x p (l ∷ ls) all = λ j. cond (not (test-same l x all.0 p j)) (1 + place-mapped x p ls all.1 j) 0

-- ---- whether a state leads on

ways-some : (row : ℕ → List ℕ) (leads : List Fork) → any_leads leads
    ≡ (list_any is_some (ways_found row (map (λ f. f.zero) leads)) || list_any is_some (ways_found row (map (λ f. f.one) leads)))
ways-some row [] = refl
ways-some row (f ∷ leads) = grind (arith, ways-some row leads)

fork-some : (states : List (List Bool)) (a b : Option (List Bool)) (more : List (List Bool))
    → ((is_some (lead states a) || is_some (lead states b)) || nat_lt 0 (length more)) ≡ nat_lt 0 (length ((option_to_list a ++ option_to_list b) ++ more))
fork-some states None None more = refl
fork-some states None (Some s) more = grind (arith, nat_tests)
fork-some states (Some s) b more = grind (arith, nat_tests)

some-decided : (table : List ClauseTransition) (all states : List (List Bool))
    → any_leads (map (λ s. record { zero = lead all (successor false table s); one = lead all (successor true table s) }) states)
    ≡ nat_lt 0 (length (flat_map (λ s. option_to_list (successor false table s) ++ option_to_list (successor true table s)) states))
some-decided table all [] = refl
some-decided table all (s ∷ states) = ap (λ b. (is_some (lead all (successor false table s)) || is_some (lead all (successor true table s))) || b) (some-decided table all states)
    ∙ fork-some all (successor false table s) (successor true table s) _

some-different : (ls : List (List Bool)) → nat_lt 0 (length ls) ≡ nat_lt 0 (length (different ls))
some-different [] = refl
some-different (l ∷ ls) = grind (arith, nat_tests)

pub way-below : (clauses : List Clause) (of : List (List ℕ)) (seen : List Bool) (numbers : List ℕ) (step : Step) (rest : List Step) (s : Stand)
    → nat_lt 0 (length (stand_decided clauses of seen step.var s).states) ≡ has_way (forks_below clauses of seen numbers step rest s)
way-below clauses of seen numbers step rest s =
    let table = table_at clauses of seen step.var s.active in
    sym (sym (ways-some (row_at (columns_below clauses of seen numbers step rest s)) (decided_forks table s.states)) ∙ some-decided table (decided_states table s.states) s.states ∙ some-different _)

-- one more place
pub leads-push : (places : List Forks) (forks : Forks) → leads_on (places ++ forks ∷ []) ≡ has_way forks
leads-push [] forks = refl
leads-push (p ∷ []) forks = refl
leads-push (p ∷ q ∷ places) forks = leads-push (q ∷ places) forks

pub if-some : {X : Type 0} (P : X → Type 0) (o : Option X) (x : X) → o ≡ Some x → IfSome o P → P x
if-some P o x e h = subst (λ o. IfSome o P) e h
