-- The first of the states that evidence allows, while open parts are fixed one after the other.
use Rattle.std.proofs.Common.{◌≡◌, ◌≢◌, ℕ, ◌+◌, ◌<◌, ◌≤◌, Bool, true, false, List, length, get_or, set, refl, ◌∙◌, subst, arith, inl, inr}
use Rattle.std.specs.Prelude.{◌⊎◌}
use Rattle.std.proofs.Math.ListN.{length-map}
use Rattle.std.proofs.lemmas.List.{length-take-le, get_or-set_same, get_or-set_other}
use Rattle.state_rules.specs.Bits.{bit_in}
use Rattle.state_rules.specs.Ranking.{is_before}
use Rattle.state_rules.proofs.Bits.{bit_in-map}
use Rattle.state_rules.proofs.Order.{before-at, same_bits}
use Rattle.conditioner.specs.Evidence.{word_of}
use Rattle.minimiser.proofs.Models.{Agree-bit, Refines}
use Rattle.diagnosis_lister.specs.inner.Fixing.{IsFirst, Has, fixed_bits}
use Rattle.diagnosis_lister.proofs.Allowing.{Allows, Refines-start, Refines-more, Refines-set, same_fixed, set-bit, set-old, set-new}

-- what holds when the parts before `from` are fixed
pub record Settles (P : List ℕ → List Bool → Type 0) (parts : ℕ) (start evidence : List ℕ) (from : ℕ) : Type 0 where
  pub refines : Refines parts start evidence
  pub front : (k : ℕ) → k < from → get_or evidence k 0 ≢ 0
  pub some : Has (P evidence)
  pub first : (h : List Bool) → IsFirst (P evidence) h → IsFirst (P start) h

pub Settles-start : (P : List ℕ → List Bool → Type 0) (parts : ℕ) (evidence : List ℕ) (from : ℕ) → ((k : ℕ) → k < from → get_or evidence k 0 ≢ 0) → Has (P evidence) → Settles P parts evidence evidence from
Settles-start P parts evidence from front some = record { refines = Refines-start parts evidence; front = front; some = some; first = λ h is. is }

-- the open parts from `from` up to `to` are fixed to ok, without `to`
pub record FixesOk (old new : List ℕ) (from to : ℕ) : Type 0 where
  pub long : length new ≡ length old
  pub fixed : (k : ℕ) → from ≤ k → k < to → get_or old k 0 ≡ 0 → get_or new k 0 ≡ 1
  pub kept : (k : ℕ) → get_or old k 0 ≢ 0 → get_or new k 0 ≡ get_or old k 0
  pub before : (k : ℕ) → k < from → get_or new k 0 ≡ get_or old k 0
  pub behind : (k : ℕ) → to ≤ k → get_or new k 0 ≡ get_or old k 0

not_open : (b : Bool) → word_of b ≢ 0
not_open b e = grind arith

front-more : (old : List ℕ) (part : ℕ) (b : Bool) → part < length old → ((k : ℕ) → k < part → get_or old k 0 ≢ 0) → (k : ℕ) → k < part + 1 → get_or (set old part (word_of b)) k 0 ≢ 0
front-more old part b lt front k h e = grind (arith, get_or-set_same, get_or-set_other)

module _ {vars parts : ℕ} {P : List ℕ → List Bool → Type 0} (allows : Allows vars parts P) (start : List ℕ) (long : length start ≡ vars) where
  module _ (old : List ℕ) (from : ℕ) (s : Settles P parts start old from) where
    old-long : length old ≡ vars
    old-long = s.refines.long ∙ long

    -- an open part is fixed that is faulty in some state
    pub settles-faulty : from < parts → get_or old from 0 ≡ 0 → Has (P (set old from 2)) → Settles P parts start (set old from 2) (from + 1)
    settles-faulty lt free has = record {
      refines = Refines-more parts start old (set old from 2) s.refines (Refines-set parts old from 2 lt free);
      front = front-more old from false (omega (arith, old-long, allows.within)) s.front;
      some = has;
      first = λ h is. s.first h (record {
        meets = set-old allows old from false old-long lt free h is.meets;
        before = λ k p. earlier h is k p (bit_in k from) refl;
      });
    } where
      earlier : (h : List Bool) → IsFirst (P (set old from 2)) h → (k : List Bool) → P old k → (b : Bool) → bit_in k from ≡ b → (k ≡ h) ⊎ (is_before h k ≡ true)
      earlier h is k p false q = is.before k (set-new allows old from false old-long lt free k p q)
      earlier h is k p true q = inr (before-at h k from (omega (arith, allows.long is.meets)) (omega (arith, allows.long p))
          (λ j g. same_fixed (get_or old j 0) (bit_in h j) (bit_in k j) (s.front j g)
          (allows.agrees old-long (set-old allows old from false old-long lt free h is.meets) j (omega arith)) (allows.agrees old-long p j (omega arith)))
          (set-bit allows old from false old-long lt free h is.meets) q)

    -- if all parts are fixed, they are the one state that is left
    pub settles-end : from ≡ parts → ((k : ℕ) → k < length old → get_or old k 0 < 3) → IsFirst (P start) (fixed_bits parts old)
    settles-end all small = s.first (fixed_bits parts old) (record {
      meets = subst (P old) (only s.some.state s.some.is) s.some.is;
      before = λ k p. inl (only k p);
    }) where
      only : (h : List Bool) → P old h → h ≡ fixed_bits parts old
      only h p = grind (arith, same_bits, length-map, length-take-le, Agree-bit, bit_in-map)

    -- parts that are ok in all states are fixed
    module _ (new : List ℕ) (to : ℕ) (fit : to ≤ parts) (f : FixesOk old new from to)
        (ok : (part : ℕ) → from ≤ part → part < to → get_or old part 0 ≡ 0 → (h : List Bool) → P old h → bit_in h part ≡ true) where
      pub ok-moved : (h : List Bool) → P old h → P new h
      ok-moved h p = grind arith

      pub settles-ok : Settles P parts start new to
      settles-ok = grind (arith, ok-moved)

  -- and then one that is faulty in some state
  pub settles-found : (old : List ℕ) (from : ℕ) (s : Settles P parts start old from) (new : List ℕ) (to : ℕ) (lt : to < parts) (f : FixesOk old new from to)
      → ((part : ℕ) → from ≤ part → part < to → get_or old part 0 ≡ 0 → (h : List Bool) → P old h → bit_in h part ≡ true)
      → get_or old to 0 ≡ 0 → (h : List Bool) → P old h → bit_in h to ≡ false → Settles P parts start (set new to 2) (to + 1)
  settles-found old from s new to lt f ok free h p faulty =
      let still : get_or new to 0 ≡ 0 = f.behind to (omega arith) ∙ free in
      let long' : length new ≡ vars = f.long ∙ (s.refines.long ∙ long) in
      settles-faulty new to (settles-ok old from s new to (omega arith) f ok) lt still
      (record { state = h; is = set-new allows new to false long' lt still h (ok-moved old from s new to (omega arith) f ok h p) faulty })
