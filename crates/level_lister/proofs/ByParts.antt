-- Parts that are fixed one by one, each as faulty if that leaves a state.
use Rattle.std.proofs.Common.{◌≡◌, ◌≢◌, ℕ, ◌+◌, ◌<◌, ◌≤◌, Bool, true, false, List, length, get_or, set, ◌∙◌, subst, arith}
use Rattle.std.proofs.Math.ListN.{length-set}
use Rattle.std.proofs.lemmas.Bool.{true_from_ne_false}
use Rattle.std.proofs.lemmas.List.{get_or-set_same, get_or-set_other}
use Rattle.state_rules.specs.Bits.{bit_in}
use Rattle.diagnosis_lister.specs.inner.Fixing.{Has}
use Rattle.diagnosis_lister.proofs.Allowing.{Allows, set-new}
use Rattle.diagnosis_lister.proofs.FixedParts.{FixesOk, Settles, settles-ok}

module _ {vars parts : ℕ} {P : List ℕ → List Bool → Type 0} (allows : Allows vars parts P) (start : List ℕ) (long : length start ≡ vars) (old : List ℕ) (part : ℕ) (lt : part < parts) (s : Settles P parts start old part) where
  -- a part that is not open stays
  pub settles-held : get_or old part 0 ≢ 0 → Settles P parts start old (part + 1)
  settles-held ne = grind arith

  -- an open part that is faulty in no state is ok
  pub settles-one_ok : get_or old part 0 ≡ 0 → (Has (P (set old part 2)) → ⊥) → Settles P parts start (set old part 1) (part + 1)
  settles-one_ok free none = settles-ok allows start long old part s (set old part 1) (part + 1) (omega arith) fixes ok where
    room : part < length old
    room = omega (arith, s.refines.long, long, allows.within)

    fixes : FixesOk old (set old part 1) part (part + 1)
    fixes = grind (arith, length-set, get_or-set_same, get_or-set_other)

    ok : (k : ℕ) → part ≤ k → k < part + 1 → get_or old k 0 ≡ 0 → (h : List Bool) → P old h → bit_in h k ≡ true
    ok k a b open_ h o = let same : part ≡ k = omega arith in subst (λ i. bit_in h i ≡ true) same
        (true_from_ne_false (bit_in h part) (λ e. none (record { state = h; is = set-new allows old part false (s.refines.long ∙ long) lt free h o e })))
