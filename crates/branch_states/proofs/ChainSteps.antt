-- The steps of the chain of an order.
use Rattle.std.proofs.Common.{◌≡◌, ℕ, zero, suc, ◌+◌, List, [], ◌∷◌, ◌++◌, map, length, drop, get_or, arith}
use mir.Val.{bool_byte}
use Rattle.std.specs.Prelude.{nat_lt}
use Rattle.std.specs.List.{range_with_len}
use Rattle.std.proofs.lemmas.Bool.Decides.{nat_tests}
use Rattle.std.proofs.lemmas.List.{drop_more, drop_all, append-nil, map-append}
use Rattle.state_rules.proofs.Lists.{range_more}
use Rattle.elimination_forests.specs.declared.steps.Step.{Step}
use Rattle.elimination_forests.specs.Forests.{trees, steps_of, chain}

-- one tree is below each variable except the last
pub trees_are : (vs : List ℕ) (i : ℕ) → bool_byte (nat_lt (i + 1) (length vs)) ≡ trees (chain (drop (i + 1) vs))
trees_are vs i = grind (arith, nat_tests, drop_all (i + 1) vs, drop_more vs (i + 1) 0)

abbrev pub chain_step : List ℕ → ℕ → Step
chain_step vs i = record { var = get_or vs i 0; trees = trees (chain (drop (i + 1) vs)) }

steps_along : (vs : List ℕ) (n i : ℕ) → i + n ≡ length vs → steps_of (chain (drop i vs)) ≡ map (chain_step vs) (range_with_len i n)
steps_along vs zero i e = grind (arith, drop_all i vs)
steps_along vs (suc n) i e = grind (arith, drop_more, append-nil, steps_along vs n (i + 1))

pub chain_steps : (vs : List ℕ) → steps_of (chain vs) ≡ map (chain_step vs) (range_with_len 0 (length vs))
chain_steps vs = steps_along vs (length vs) 0 (omega arith)

pub range_next : {X : Type 0} (f : ℕ → X) (k : ℕ) (xs : List X) (x : X) → xs ≡ map f (range_with_len 0 k) → x ≡ f k → xs ++ x ∷ [] ≡ map f (range_with_len 0 (k + 1))
range_next f k xs x e g = grind (arith, range_more, map-append)
