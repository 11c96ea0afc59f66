-- A least cost, and the states of that cost.
use Rattle.std.proofs.Common.{◌≡◌, ◌≢◌, ℕ, ◌≤◌, Bool, true, cond, List, [], ◌∷◌, Option, Some, None, refl, sym, ◌∙◌, ap, arith}
use Rattle.std.specs.Prelude.{is_some, nat_le}
use Rattle.std.specs.List.{filter}
use Rattle.state_rules.specs.Ranking.{cost, least, least_with, is_at_most, diagnoses}
use Rattle.state_rules.proofs.Lists.{filter-never}

pub least-none : (costs : List ℕ) (hs : List (List Bool)) → least costs hs ≡ None → hs ≡ []
least-none costs [] e = refl
least-none costs (h ∷ hs) e = grind arith

pub least-some : (costs : List ℕ) (h : List Bool) (hs : List (List Bool)) → is_some (least costs (h ∷ hs)) ≡ true
least-some costs h hs = grind arith

-- without a least cost there is no diagnosis
pub no_diagnosis : (costs : List ℕ) (hs : List (List Bool)) → least costs hs ≡ None → diagnoses costs hs ≡ []
no_diagnosis costs hs none = ap (λ (o : Option ℕ). filter (λ h. is_at_most (cost costs h) o) hs) none ∙ filter-never hs

low_next : (costs : List ℕ) (m n : ℕ) (h : List Bool) (hs : List (List Bool)) (o : Option ℕ)
    → ((k : ℕ) → o ≡ Some k → k ≤ m → filter (λ k. nat_le (cost costs k) m) hs ≡ [] → ⊥)
    → least_with (cost costs h) o ≡ Some n → n ≤ m → (b : Bool) → nat_le (cost costs h) m ≡ b
    → cond b (h ∷ filter (λ k. nat_le (cost costs k) m) hs) (filter (λ k. nat_le (cost costs k) m) hs) ≡ [] → ⊥
low_next costs m n h hs o more e low b q r = grind arith

-- if the least cost is at most a number, some state's is
some_low : (costs : List ℕ) (n m : ℕ) (hs : List (List Bool)) → least costs hs ≡ Some n → n ≤ m → filter (λ h. nat_le (cost costs h) m) hs ≡ [] → ⊥
some_low costs n m [] e low r = absurd (let never : ⊥ = cc in never)
some_low costs n m (h ∷ hs) e low r =
    low_next costs m n h hs (least costs hs) (λ k f. some_low costs k m hs f) e low (nat_le (cost costs h) m) refl r

-- if there is a least cost there is a diagnosis
pub some_diagnosis : (costs : List ℕ) (n : ℕ) (hs : List (List Bool)) → least costs hs ≡ Some n → diagnoses costs hs ≡ [] → ⊥
some_diagnosis costs n hs e none =
    some_low costs n n hs e (omega arith) (ap (λ (o : Option ℕ). filter (λ h. is_at_most (cost costs h) o) hs) (sym e) ∙ none)

by_least-some : (costs : List ℕ) (hs : List (List Bool)) (o : Option ℕ) → least costs hs ≡ o → true ≡ is_some o → diagnoses costs hs ≢ []
by_least-some costs hs None e f = absurd (let never : ⊥ = cc in never)
by_least-some costs hs (Some n) e f = λ none. some_diagnosis costs n hs e none

pub has_diagnosis : (costs : List ℕ) (hs : List (List Bool)) → true ≡ is_some (least costs hs) → diagnoses costs hs ≢ []
has_diagnosis costs hs e = by_least-some costs hs (least costs hs) refl e
