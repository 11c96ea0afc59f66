-- Numbers that are lowered, one cost after another.
use Rattle.std.proofs.Common.{◌≡◌, ℕ, ◌+◌, ◌<◌, ◌≤◌, ◌||◌, List, length, take, get_or, ap, ◌∙◌, arith}
use Rattle.std.specs.Prelude.{◌⊎◌, ◌==◌}
use Rattle.std.proofs.lemmas.List.{take_more}
use Rattle.state_rules.proofs.Lists.{any-push}
use Rattle.minimiser.specs.inner.Swept.{is_child}
use Rattle.probe_report.specs.inner.Outside.{IsLowered}
use Rattle.probe_report.specs.inner.Leaving.{LowersBlock}

-- ---- one number

-- to some costs, and then to others
pub lowered-then : {P Q R : ℕ → Type 0} (a b c : ℕ) → IsLowered P a b → IsLowered Q b c → ((x : ℕ) → P x → R x) → ((x : ℕ) → Q x → R x) → ((x : ℕ) → R x → P x ⊎ Q x) → IsLowered R a c
lowered-then {P} {Q} {R} a b c p q left right either = grind arith

-- to the same costs in another form
pub lowered-as : {P R : ℕ → Type 0} (a b : ℕ) → IsLowered P a b → ((x : ℕ) → P x → R x) → ((x : ℕ) → R x → P x) → IsLowered R a b
lowered-as a b p to back = grind arith

-- ---- children

pub is_child-more : (kids : List ℕ) (i j : ℕ) → i < length kids → is_child (take (i + 1) kids) j ≡ (is_child (take i kids) j || (get_or kids i 0 == j))
is_child-more kids i j h = ap (λ ks. is_child ks j) (take_more kids i 0 h) ∙ any-push (λ k. k == j) (take i kids) (get_or kids i 0)

-- ---- the wires that are left

-- ---- 64 wires

pub block-then : {P Q R : ℕ → ℕ → Type 0} (start : ℕ) (a b c : List ℕ) → length b ≡ length a → LowersBlock start P a b → LowersBlock start Q b c
    → ((i x : ℕ) → P i x → R i x) → ((i x : ℕ) → start ≤ i → i < start + 64 → Q i x → R i x) → ((i x : ℕ) → start ≤ i → i < start + 64 → R i x → P i x ⊎ Q i x) → LowersBlock start R a c
block-then {P} {Q} {R} start a b c long p q left right either = grind (arith, lowered-then)

pub block-none : {P : ℕ → ℕ → Type 0} (start : ℕ) (a : List ℕ) → ((i x : ℕ) → start ≤ i → i < start + 64 → P i x → ⊥) → LowersBlock start P a a
block-none {P} start a none = grind arith

pub block-as : {P R : ℕ → ℕ → Type 0} (start : ℕ) (a b : List ℕ) → LowersBlock start P a b → ((i x : ℕ) → start ≤ i → i < start + 64 → P i x → R i x) → ((i x : ℕ) → start ≤ i → i < start + 64 → R i x → P i x) → LowersBlock start R a b
block-as {P} {R} start a b p to back = grind (arith, lowered-as)
