-- The last part at which a later state can leave a point.
use Rattle.std.proofs.Common.{◌≡◌, ◌≢◌, ℕ, ◌+◌, ◌<◌, ◌≤◌, Bool, true, false, List, length, get_or, set, sym, ◌∙◌, subst, arith, inr, ⊎_elim}
use Rattle.std.specs.Prelude.{◌⊎◌}
use Rattle.std.proofs.Math.ListN.{length-set}
use Rattle.std.proofs.lemmas.Bool.{cases_lt}
use Rattle.std.proofs.lemmas.List.{get_or-set_same, get_or-set_other}
use Rattle.state_rules.specs.Bits.{bit_in, AlikeBelow}
use Rattle.state_rules.specs.Ranking.{is_before}
use Rattle.state_rules.proofs.Order.{before-at, not_both_before, Differs, differs, same_bits}
use Rattle.conditioner.specs.Evidence.{word_of}
use Rattle.minimiser.proofs.Models.{Agree, Agree-bit, Agree-same, Refines}
use Rattle.diagnosis_lister.specs.inner.Fixing.{IsFirst, Has, Agrees, NoneAfter, Follows, Leaves}
use Rattle.diagnosis_lister.proofs.Allowing.{Allows}

-- ---- following the point

-- the evidence of the first `n` parts says the point's bits
pub record FollowsTo (old : List ℕ) (point : List Bool) (new : List ℕ) (n : ℕ) : Type 0 where
  pub front : (k : ℕ) → k < n → get_or new k 0 ≡ word_of (bit_in point k)
  pub kept : (k : ℕ) → get_or old k 0 ≢ 0 → get_or new k 0 ≡ get_or old k 0
  pub behind : (k : ℕ) → n ≤ k → get_or new k 0 ≡ get_or old k 0

pub FollowsTo-set : (old : List ℕ) (point : List Bool) (evidence new : List ℕ) (i word : ℕ) → i < length evidence → FollowsTo old point evidence i → word ≡ word_of (bit_in point i) → get_or old i 0 ≡ 0
    → new ≡ set evidence i word → FollowsTo old point new (i + 1)
FollowsTo-set old point evidence new i word h f e open_ at = grind (arith, get_or-set_same, get_or-set_other)

pub FollowsTo-stay : (old : List ℕ) (point : List Bool) (evidence : List ℕ) (i : ℕ) → FollowsTo old point evidence i → get_or evidence i 0 ≡ word_of (bit_in point i) → FollowsTo old point evidence (i + 1)
FollowsTo-stay old point evidence i f e = grind arith

-- all parts are as the point has them
pub Follows-all : (old : List ℕ) (point : List Bool) (new : List ℕ) (n : ℕ) → n ≡ length point → FollowsTo old point new n → Follows (Agrees n old) old point new n
Follows-all old point new n e f = record {
  front = λ k h. f.front k (omega arith);
  kept = f.kept;
  behind = f.behind;
  none = λ h p alike b. let same : h ≡ point = same_bits h point (p.long ∙ e) (λ i g. alike i (omega (arith, p.long))) in
      not_both_before point h b (subst (λ k. is_before k point ≡ true) (sym same) (subst (λ k. is_before point k ≡ true) same b));
}

-- ---- going back

module _ {vars parts : ℕ} {P : List ℕ → List Bool → Type 0} (allows : Allows vars parts P) (old : List ℕ) (point : List Bool) (long : length old ≡ vars) (bits : length point ≡ parts) where
  pub follows-start : {evidence : List ℕ} {n : ℕ} → Follows (Agrees (length point) old) old point evidence n → Follows (P old) old point evidence n
  follows-start f = grind arith

  -- no later state leaves the point at a part, if no such state is ok there
  none-before : (j : ℕ) → j < parts → NoneAfter (P old) point (j + 1)
      → (bit_in point j ≡ false → (h : List Bool) → P old h → AlikeBelow j h point → bit_in h j ≡ true → ⊥) → NoneAfter (P old) point j
  none-before j lt none left h p alike b = grind (arith, not_both_before, before-at)

  module _ {evidence : List ℕ} {j : ℕ} (lt : j < parts) (same : length evidence ≡ length old) (f : Follows (P old) old point evidence (j + 1)) where
    -- the part's word is as it was again
    pub follows-back : (word : ℕ) → word ≡ get_or old j 0 → NoneAfter (P old) point j → Follows (P old) old point (set evidence j word) j
    follows-back word e none = grind (arith, get_or-set_same, get_or-set_other)

    -- the point has the part ok, or it is held to be faulty
    pub none-held : (bit_in point j ≡ true) ⊎ (get_or old j 0 ≡ 2) → NoneAfter (P old) point j
    none-held cases = none-before j lt f.none (λ e h p alike g. grind (arith, cases, allows.agrees long p j lt))

    -- the part is tried as ok
    module _ (few : get_or old j 0 < 3) (free : get_or old j 0 ≢ 2) where
      here : get_or (set evidence j 1) j 0 ≡ 1
      here = get_or-set_same evidence j 1 0 (omega (arith, allows.within))

      apart : (k : ℕ) → k ≢ j → get_or (set evidence j 1) k 0 ≡ get_or evidence k 0
      apart k ne = get_or-set_other evidence j k 1 0 ne

      pub tried-kept : (k : ℕ) → get_or old k 0 ≢ 0 → get_or (set evidence j 1) k 0 ≡ get_or old k 0
      tried-kept k ne = grind (arith, here, apart)

      pub tried-refines : Refines parts old (set evidence j 1)
      tried-refines = grind (arith, length-set, tried-kept, apart)

      -- a later state that leaves the point at the part agrees with the evidence that is tried
      tried : (h : List Bool) → P old h → AlikeBelow j h point → bit_in h j ≡ true → P (set evidence j 1) h
      tried h p alike g = grind (arith, tried-refines, apart, here)

      pub none-tried : (Has (P (set evidence j 1)) → ⊥) → NoneAfter (P old) point j
      none-tried failed = none-before j lt f.none (λ e h p alike g. failed (record { state = h; is = tried h p alike g }))

      pub leaves-tried : bit_in point j ≡ false → Has (P (set evidence j 1)) → Leaves P old point (set evidence j 1) j
      leaves-tried e some = grind (arith, here, apart)

  -- The first state under the evidence that leaves the point is the first after the point.
  module _ {new : List ℕ} {part : ℕ} (same : length new ≡ length old) (l : Leaves P old point new part) where
    pub leaves-refines : Refines parts old new
    leaves-refines = record { long = same; kept = l.follows.kept; others = λ k g. l.follows.behind k (omega (arith, l.within)) }

    -- a state that agrees with the new evidence has the point's bits before the part, and is ok there
    alike : (k : List Bool) → P new k → AlikeBelow part k point
    alike k p i lt = Agree-bit (bit_in point i) (bit_in k i) (subst (λ w. Agree w (bit_in k i)) (l.follows.front i (omega arith)) (allows.agrees (same ∙ long) p i (omega (arith, l.within))))

    ok : (k : List Bool) → P new k → bit_in k part ≡ true
    ok k p = Agree-bit true (bit_in k part) (subst (λ w. Agree w (bit_in k part)) l.ok (allows.agrees (same ∙ long) p part (omega (arith, l.within))))

    pub leaves-first : (h : List Bool) → IsFirst (P new) h → IsFirst (λ k. P old k × (is_before point k ≡ true)) h
    leaves-first h is = record {
      meets = (allows.fewer long leaves-refines is.meets, before-at point h part l.within (omega (arith, allows.long is.meets, l.within)) (λ i lt. sym (alike h is.meets i lt)) l.faulty (ok h is.meets));
      before = λ k p. by_place k p (differs point k p.1);
    } where
      by_place : (k : List Bool) → P old k × (is_before point k ≡ true) → Differs point k → (k ≡ h) ⊎ (is_before h k ≡ true)
      by_place k p d = ⊎_elim
          (λ (q : d.at < part). let a = alike h is.meets d.at q in inr (before-at h k d.at (omega (arith, allows.long is.meets, d.within)) (omega (arith, allows.long p.0, d.within)) (λ i lt. alike h is.meets i (omega arith) ∙ d.alike i lt) (a ∙ d.faulty) d.ok))
          (λ (q : part ≤ d.at). let n = l.follows.none k p.0 in let m = is.before k in let w = allows.more long leaves-refines p.0 in grind (arith, agrees))
          (cases_lt d.at part) where
            agrees : d.at ≡ part → (i : ℕ) → i < parts → Agree (get_or new i 0) (bit_in k i)
            agrees at i lt = grind (arith, Agree-same, allows.agrees long p.0 i lt)
