-- The first state in a range of costs, as one part after the other is fixed, and the next after a point.
use Rattle.std.proofs.Common.{◌≡◌, ℕ, suc, ◌+◌, ◌<◌, ◌≤◌, Bool, true, false, List, length, take, refl, sym, ◌∙◌, ap, subst, arith, inl, inr, ⊎_elim}
use Rattle.std.specs.Prelude.{◌⊎◌}
use Rattle.std.proofs.Common.{below_more}
use Rattle.std.proofs.lemmas.Bool.{cases_order}
use Rattle.std.proofs.lemmas.List.{get_or-take, length-take-le}
use Rattle.state_rules.specs.Bits.{bit_in, AlikeBelow}
use Rattle.state_rules.specs.Ranking.{is_before}
use Rattle.state_rules.proofs.Order.{before-at, Differs, differs, not_both_before, same_bits}
use Rattle.diagnosis_lister.specs.inner.Fixing.{IsFirst, NoneAfter}
use Rattle.clause_answers.specs.Questions.{Question}
use Rattle.clause_answers.specs.inner.Listed.{Meets, Shows}

-- at one of the first `n` places, before which they are alike, `s` is faulty and `b` is ok
pub record Leaves (s b : List Bool) (n : ℕ) : Type 0 where
  pub at : ℕ
  pub within : at < n
  pub alike : AlikeBelow at b s
  pub faulty : bit_in s at ≡ false
  pub ok : bit_in b at ≡ true

module _ (q : Question) (low high : ℕ) where
  abbrev parts : ℕ
  parts = length q.costs

  -- bits in the range that begin as the first `from` bits of `start` begin as the first `n` of `s`, or come later
  abbrev pub Reach : (from : ℕ) (start s : List Bool) (n : ℕ) → Type 0
  Reach from start s n = (b : List Bool) → Meets q low high b → AlikeBelow from b start → AlikeBelow n b s ⊎ Leaves s b n

  -- one more part is fixed, to ok only if it cannot be faulty
  pub reach-more : (from : ℕ) (start s t : List Bool) (n : ℕ) → Reach from start s n → AlikeBelow n t s
      → (bit_in t n ≡ true → (b : List Bool) → Meets q low high b → AlikeBelow n b s → bit_in b n ≡ true) → Reach from start t (n + 1)
  reach-more from start s t n reach same ok b meets begins = ⊎_elim (λ alike. by_bits alike (bit_in t n) (bit_in b n) refl refl) (λ l. inr (later l)) (reach b meets begins) where
    later : Leaves s b n → Leaves t b (n + 1)
    later l = record { at = l.at; within = omega (arith, l.within); alike = λ i lt. l.alike i lt ∙ sym (same i (omega (arith, l.within))); faulty = same l.at l.within ∙ l.faulty; ok = l.ok }

    by_bits : AlikeBelow n b s → (x y : Bool) → bit_in t n ≡ x → bit_in b n ≡ y → AlikeBelow (n + 1) b t ⊎ Leaves t b (n + 1)
    by_bits alike false true e f = inr (record { at = n; within = omega arith; alike = λ i lt. alike i lt ∙ sym (same i lt); faulty = e; ok = f })
    by_bits alike true false e f = absurd (let no : true ≡ false = sym (ok e b meets alike) ∙ f in cc)
    by_bits alike false false e f = inl (below_more (λ i. bit_in b i ≡ bit_in t i) n (λ i lt. alike i lt ∙ sym (same i lt)) (f ∙ sym e))
    by_bits alike true true e f = inl (below_more (λ i. bit_in b i ≡ bit_in t i) n (λ i lt. alike i lt ∙ sym (same i lt)) (f ∙ sym e))

  module _ (within : length q.costs ≤ q.cnf.vars) where
    pub shows-long : (h : List Bool) → Shows q low high h → length h ≡ length q.costs
    shows-long h s = ap length (sym s.begins) ∙ length-take-le (length q.costs) s.bits (omega (arith, s.meets.fits.long))

    pub shows-bit : (h : List Bool) (s : Shows q low high h) (i : ℕ) → i < length q.costs → bit_in h i ≡ bit_in s.bits i
    shows-bit h s i lt = ap (λ k. bit_in k i) (sym s.begins) ∙ get_or-take (length q.costs) s.bits i false lt

    pub shown : (b s : List Bool) → Meets q low high b → length s ≡ length q.costs → AlikeBelow (length q.costs) b s → Shows q low high s
    shown b s meets long alike = record {
      bits = b;
      meets = meets;
      begins = same_bits (take (length q.costs) b) s (length-take-le (length q.costs) b (omega (arith, meets.fits.long)) ∙ sym long)
          (λ i lt. let few : i < length q.costs = omega (arith, length-take-le (length q.costs) b (omega (arith, meets.fits.long))) in get_or-take (length q.costs) b i false few ∙ alike i few);
    }

    -- all parts are fixed
    pub reach-first : (from : ℕ) (start s b : List Bool) → from ≤ length q.costs → length s ≡ length q.costs → Meets q low high b → AlikeBelow (length q.costs) b s → AlikeBelow from s start
        → Reach from start s (length q.costs) → IsFirst (λ h. Shows q low high h × AlikeBelow from h start) s
    reach-first from start s b le long meets alike front reach = record {
      meets = (shown b s meets long alike, front);
      before = λ k p. ⊎_elim
          (λ a. inl (same_bits k s (shows-long k p.0 ∙ sym long) (λ i lt. let few : i < length q.costs = omega (arith, shows-long k p.0) in shows-bit k p.0 i few ∙ a i few)))
          (λ l. inr (before-at s k l.at (omega (arith, l.within)) (omega (arith, l.within, shows-long k p.0))
          (λ i lt. sym (shows-bit k p.0 i (omega (arith, l.within)) ∙ l.alike i lt)) l.faulty (shows-bit k p.0 l.at l.within ∙ l.ok)))
          (reach p.0.bits p.0.meets (λ i lt. sym (shows-bit k p.0 i (omega arith)) ∙ p.1 i lt));
    }

    -- ---- after a point

    module _ (point : List Bool) (long : length point ≡ length q.costs) where
      abbrev None : ℕ → Type 0
      None n = NoneAfter (λ h. Shows q low high h) point n

      pub none-start : None (length q.costs)
      none-start h s alike b =
          let same : h ≡ point = same_bits h point (shows-long h s ∙ sym long) (λ i lt. alike i (omega (arith, shows-long h s))) in
          not_both_before point h b (subst (λ k. is_before k point ≡ true) (sym same) (subst (λ k. is_before point k ≡ true) same b))

      -- no later state leaves the point at a part, if no bits in the range are ok there
      pub none-back : (n : ℕ) → n < length q.costs → None (n + 1)
          → (bit_in point n ≡ false → (b : List Bool) → Meets q low high b → AlikeBelow n b point → bit_in b n ≡ true → ⊥) → None n
      none-back n lt none ok h s alike later = by_bits (bit_in point n) (bit_in h n) refl refl where
        by_bits : (x y : Bool) → bit_in point n ≡ x → bit_in h n ≡ y → ⊥
        by_bits false true e f = ok e s.bits s.meets (λ i l. sym (shows-bit h s i (omega arith)) ∙ alike i l) (sym (shows-bit h s n lt) ∙ f)
        by_bits true false e f = not_both_before point h later (before-at h point n (omega (arith, shows-long h s)) (omega (arith, long)) alike f e)
        by_bits false false e f = none h s (below_more (λ i. bit_in h i ≡ bit_in point i) n alike (f ∙ sym e)) later
        by_bits true true e f = none h s (below_more (λ i. bit_in h i ≡ bit_in point i) n alike (f ∙ sym e)) later

      -- The first state that begins as `t`, which leaves the point at a part, is the first one after the point.
      pub leave-first : (n : ℕ) (t h : List Bool) → n < length q.costs → None (n + 1) → bit_in point n ≡ false → AlikeBelow n t point → bit_in t n ≡ true
          → IsFirst (λ k. Shows q low high k × AlikeBelow (n + 1) k t) h → IsFirst (λ k. Shows q low high k × (is_before point k ≡ true)) h
      leave-first n t h lt none faulty same ok is = record {
        meets = (is.meets.0, before-at point h n (omega (arith, long)) (omega (arith, shows-long h is.meets.0)) (λ i l. sym (front i l)) faulty (is.meets.1 n (omega arith) ∙ ok));
        before = λ k p. by_place k p (differs point k p.1);
      } where
        front : AlikeBelow n h point
        front i l = is.meets.1 i (omega arith) ∙ same i l

        by_place : (k : List Bool) → Shows q low high k × (is_before point k ≡ true) → Differs point k → (k ≡ h) ⊎ (is_before h k ≡ true)
        by_place k p d = ⊎_elim
            (λ (e : d.at ≡ n). is.before k (
              p.0,
              below_more (λ i. bit_in k i ≡ bit_in t i) n
                  (λ i g. sym (d.alike i (omega arith)) ∙ sym (same i g)) (ap (bit_in k) (sym e) ∙ (d.ok ∙ sym ok)),
            ))
            (⊎_elim
            (λ (l : d.at < n). inr (before-at h k d.at (omega (arith, shows-long h is.meets.0)) (omega (arith, shows-long k p.0))
            (λ i g. front i (omega arith) ∙ d.alike i g) (front d.at l ∙ d.faulty) d.ok))
            (λ (g : n < d.at). absurd (none k p.0 (λ i l. sym (d.alike i (omega arith))) p.1)))
            (cases_order d.at n)
