-- Assignments that are alike on the variables of rules, and those that give each defined variable its bit.
use Rattle.std.proofs.Common.{◌≡◌, ℕ, zero, suc, ◌+◌, ◌-◌, ◌<◌, ◌≤◌, ◌==◌, Bool, true, false, ◌&&◌, if◌then◌else◌, List, [], ◌∷◌, length, ℤ, refl, arith}
use Rattle.std.specs.Prelude.{nat_le}
use Rattle.std.specs.List.{list_all}
use Rattle.std.proofs.lemmas.Bool.{and_parts}
use Rattle.std.proofs.lemmas.Bool.Decides.{nat_tests}
use Rattle.state_rules.specs.Bits.{same_bit}
use Rattle.state_rules.specs.Assignments.{Assignment}
use Rattle.clause_encoder.specs.Clauses.{is_positive, var_of, all_hold, is_clause, is_clause_list}
use Rattle.clause_encoder.proofs.OtherVariables.{all_hold-same}
use Rattle.clause_search.specs.declared.weighted.Weighted.{Weighted}
use Rattle.clause_search.specs.Searching.{Rules, holds, all_true, false_weight, respects, keeps, all_vars, is_within, are_within, are_ordered}

-- two assignments with the same bits for the variables up to `n`
abbrev pub AreAlike : ℕ → Assignment → Assignment → Type 0
AreAlike n a b = (v : ℕ) → 1 ≤ v → v ≤ n → a v ≡ b v

pub holds-same : (n : ℕ) (a b : Assignment) (l : ℤ) → AreAlike n a b → is_within n l ≡ true → holds a l ≡ holds b l
holds-same n a b l s w = grind (arith, nat_tests, s (var_of l))

pub all_true-same : (n : ℕ) (a b : Assignment) (literals : List ℤ) → AreAlike n a b → are_within n literals ≡ true → all_true a literals ≡ all_true b literals
all_true-same n a b [] s w = refl
all_true-same n a b (l ∷ literals) s w = grind (arith, holds-same n a b l s, all_true-same n a b literals s)

pub weight-same : (n : ℕ) (a b : Assignment) (members : List Weighted) → AreAlike n a b → list_all (λ (w : Weighted). is_within n w.literal) members ≡ true
    → false_weight a members ≡ false_weight b members
weight-same n a b [] s w = refl
weight-same n a b (m ∷ members) s w = grind (arith, holds-same n a b m.literal s, weight-same n a b members s)

pub respects-same : (v : ℕ) (a b : Assignment) (members : List (List Weighted)) (limits : List ℕ) → 1 ≤ v → are_ordered v members ≡ true
    → AreAlike (v - 1 + length members) a b → respects a v members limits ≡ respects b v members limits
respects-same v a b [] limits f o s = refl
respects-same v a b (m ∷ members) [] f o s = refl
respects-same v a b (m ∷ members) (k ∷ limits) f o s =
    let two = and_parts (list_all (λ (w : Weighted). is_within (v - 1) w.literal) m) (are_ordered (v + 1) members) o in
    let own : a v ≡ b v = s v f (omega arith) in
    let weights : false_weight a m ≡ false_weight b m = weight-same (v - 1) a b m (λ u g h. s u g (omega (arith, h))) two.0 in
    let others : respects a (v + 1) members limits ≡ respects b (v + 1) members limits = respects-same (v + 1) a b members limits (omega arith) two.1 (λ u g h. s u g (omega (arith, h, f))) in
    grind (arith, own, weights, others)

pub keeps-same : (rules : Rules) (a b : Assignment) → is_clause_list rules.cnf ≡ true → are_ordered (rules.cnf.vars + 1) rules.members ≡ true
    → AreAlike (all_vars rules) a b → keeps rules a ≡ keeps rules b
keeps-same rules a b c o s =
    let clauses : all_hold a rules.cnf.clauses ≡ all_hold b rules.cnf.clauses = all_hold-same rules.cnf.vars a b rules.cnf.clauses (grind arith) (λ v f h. s v f (omega (arith, h))) in
    let definitions : respects a (rules.cnf.vars + 1) rules.members rules.limits ≡ respects b (rules.cnf.vars + 1) rules.members rules.limits =
    respects-same (rules.cnf.vars + 1) a b rules.members rules.limits (omega arith) o (λ v f h. s v f (omega (arith, h))) in
    grind (arith, clauses, definitions)

-- ---- the bits of the defined variables

abbrev pub put : Assignment → ℕ → Bool → Assignment
put a v bit u = if u == v then bit else a u

-- the assignment that gives each defined variable its bit, and all others the bits of `a`
abbrev pub extended : Assignment → ℕ → List (List Weighted) → List ℕ → Assignment
extended a v [] limits = a
extended a v (m ∷ members) [] = a
extended a v (m ∷ members) (k ∷ limits) = extended (put a v (nat_le (false_weight a m) k)) (v + 1) members limits

pub extended-below : (a : Assignment) (v u : ℕ) (members : List (List Weighted)) (limits : List ℕ) → u < v → extended a v members limits u ≡ a u
extended-below a v u [] limits h = refl
extended-below a v u (m ∷ members) [] h = refl
extended-below a v u (m ∷ members) (k ∷ limits) h = grind (arith, nat_tests, extended-below (put a v (nat_le (false_weight a m) k)) (v + 1) u members limits)

pub extended-respects : (a : Assignment) (v : ℕ) (members : List (List Weighted)) (limits : List ℕ) → 1 ≤ v → are_ordered v members ≡ true
    → respects (extended a v members limits) v members limits ≡ true
extended-respects a v [] limits f o = refl
extended-respects a v (m ∷ members) [] f o = refl
extended-respects a v (m ∷ members) (k ∷ limits) f o =
    let b : Assignment = put a v (nat_le (false_weight a m) k) in
    let e : Assignment = extended b (v + 1) members limits in
    let two = and_parts (list_all (λ (w : Weighted). is_within (v - 1) w.literal) m) (are_ordered (v + 1) members) o in
    let own : e v ≡ nat_le (false_weight a m) k = grind (arith, nat_tests, extended-below b (v + 1) v members limits) in
    let alike : AreAlike (v - 1) e a = λ u g h. (let below : u < v = omega (arith, h, f) in grind (arith, nat_tests, extended-below b (v + 1) u members limits)) in
    let weights : false_weight e m ≡ false_weight a m = weight-same (v - 1) e a m alike two.0 in
    grind (arith, own, weights, extended-respects b (v + 1) members limits (omega arith) two.1)

-- the same for all rules
abbrev pub extension : Rules → Assignment → Assignment
extension rules a = extended a (rules.cnf.vars + 1) rules.members rules.limits

pub extension-alike : (rules : Rules) (a : Assignment) → AreAlike rules.cnf.vars (extension rules a) a
extension-alike rules a v f h = extended-below a (rules.cnf.vars + 1) v rules.members rules.limits (omega (arith, h))

-- An assignment that makes all clauses true keeps the rules with those bits for the defined variables.
pub extension-keeps : (rules : Rules) (a : Assignment) → is_clause_list rules.cnf ≡ true → are_ordered (rules.cnf.vars + 1) rules.members ≡ true
    → all_hold a rules.cnf.clauses ≡ true → keeps rules (extension rules a) ≡ true
extension-keeps rules a c o h =
    let clauses : all_hold (extension rules a) rules.cnf.clauses ≡ all_hold a rules.cnf.clauses = all_hold-same rules.cnf.vars (extension rules a) a rules.cnf.clauses (grind arith) (extension-alike rules a) in
    grind (arith, clauses, extended-respects a (rules.cnf.vars + 1) rules.members rules.limits (omega arith) o)
