-- States that evidence allows, while open parts are fixed.
use Rattle.std.proofs.Common.{◌≡◌, ◌≢◌, ℕ, ◌<◌, ◌≤◌, Bool, List, length, get_or, set, refl, ◌∙◌, subst, arith}
use Rattle.std.proofs.Math.ListN.{length-set}
use Rattle.std.proofs.lemmas.List.{get_or-set_same, get_or-set_other}
use Rattle.state_rules.specs.Bits.{bit_in}
use Rattle.state_rules.specs.Graphs.{Graph}
use Rattle.conditioner.specs.Evidence.{word_of}
use Rattle.minimiser.specs.LeastStates.{ModelWithin}
use Rattle.minimiser.proofs.Models.{Agree, Agree-bit, Refines, ModelWithin-old, ModelWithin-new, ModelWithin-agrees}

-- Evidence allows states of `parts` parts that agree with it. Evidence that says more allows those of them that agree with it.
pub record Allows (vars parts : ℕ) (P : List ℕ → List Bool → Type 0) : Type 0 where
  pub within : parts ≤ vars
  pub long : {evidence : List ℕ} {h : List Bool} → P evidence h → length h ≡ parts
  pub agrees : {evidence : List ℕ} {h : List Bool} → length evidence ≡ vars → P evidence h → (i : ℕ) → i < parts → Agree (get_or evidence i 0) (bit_in h i)
  pub fewer : {old new : List ℕ} {h : List Bool} → length old ≡ vars → Refines parts old new → P new h → P old h
  pub more : {old new : List ℕ} {h : List Bool} → length old ≡ vars → Refines parts old new → P old h → ((i : ℕ) → i < parts → Agree (get_or new i 0) (bit_in h i)) → P new h

pub allows-within : (graph : Graph) (costs : List ℕ) (most : ℕ) → length costs ≤ graph.vars → Allows graph.vars (length costs) (λ evidence h. ModelWithin graph evidence costs most h)
allows-within graph costs most within = record {
  within = within;
  long = λ {evidence} {h} p. p.long;
  agrees = λ {evidence} {h} long p. ModelWithin-agrees graph costs within evidence most h long p;
  fewer = λ {old} {new} {h} long r p. ModelWithin-old graph costs within old new most h long r p;
  more = λ {old} {new} {h} long r p agree. ModelWithin-new graph costs within old new most h long r p agree;
}

-- ---- evidence that says more

pub Refines-start : (parts : ℕ) (evidence : List ℕ) → Refines parts evidence evidence
Refines-start parts evidence = record { long = refl; kept = λ k ne. refl; others = λ k g. refl }

pub Refines-more : (parts : ℕ) (start old new : List ℕ) → Refines parts start old → Refines parts old new → Refines parts start new
Refines-more parts start old new r q = grind arith

pub Refines-set : (parts : ℕ) (old : List ℕ) (part word : ℕ) → part < parts → get_or old part 0 ≡ 0 → Refines parts old (set old part word)
Refines-set parts old part word lt e = grind (arith, length-set, get_or-set_other)

-- bits that agree with one word that is fixed
pub same_fixed : (word : ℕ) (x y : Bool) → word ≢ 0 → Agree word x → Agree word y → x ≡ y
same_fixed word x y ne a b = grind arith

-- the word of an open part is set to a bit
module _ {vars parts : ℕ} {P : List ℕ → List Bool → Type 0} (allows : Allows vars parts P) (old : List ℕ) (part : ℕ) (b : Bool) (long : length old ≡ vars) (lt : part < parts) (free : get_or old part 0 ≡ 0) where
  here : get_or (set old part (word_of b)) part 0 ≡ word_of b
  here = get_or-set_same old part (word_of b) 0 (omega (arith, allows.within))

  pub set-bit : (h : List Bool) → P (set old part (word_of b)) h → bit_in h part ≡ b
  set-bit h p = Agree-bit b (bit_in h part) (subst (λ w. Agree w (bit_in h part)) here (allows.agrees (length-set old part (word_of b) ∙ long) p part lt))

  pub set-old : (h : List Bool) → P (set old part (word_of b)) h → P old h
  set-old h p = allows.fewer long (Refines-set parts old part (word_of b) lt free) p

  pub set-new : (h : List Bool) → P old h → bit_in h part ≡ b → P (set old part (word_of b)) h
  set-new h p e = grind (arith, Refines-set, here, get_or-set_other)
