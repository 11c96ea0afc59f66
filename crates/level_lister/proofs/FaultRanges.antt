-- The range of the first fault, as each pass makes it smaller.
use Rattle.std.proofs.Common.{ℕ, zero, suc, ◌+◌, ◌-◌, ◌*◌, ◌/◌, ◌^◌, ◌<◌, ◌≤◌, List, length, refl, arith, inl, inr, ⊎_elim}
use Rattle.std.specs.Prelude.{◌⊎◌}
use Rattle.std.proofs.lemmas.Bool.{cases_lt, true_from_ne_false}
use Rattle.std.proofs.lemmas.Nat.{div_below}
use Rattle.std.proofs.Math.Nat.{lt-div-mul-add, div-mul-le_self, pow-zero, pow-suc}
use Rattle.state_rules.specs.Bits.{bit_in}
use Rattle.state_rules.specs.Graphs.{Graph}
use Rattle.level_lister.specs.declared.groups.Groups.{Groups}
use Rattle.level_lister.specs.inner.Pairs.{FaultOf, FaultIn, OkAmong}

pub size_some : (span count : ℕ) → 0 < span → 0 < (span + count) / (count + 1)
size_some span count h = grind arith

module _ (graph : Graph) (evidence costs : List ℕ) (c from : ℕ) where
  pub record FaultWithin (low span : ℕ) : Type 0 where
    pub part : ℕ
    pub from_ : low ≤ part
    pub to : part < low + span
    pub fault : FaultIn graph evidence costs c part

  -- The open parts before the range are ok in all states. Some open part in the range is faulty in a state, or the range ends after all
  -- parts.
  pub record IsRange (low span : ℕ) : Type 0 where
    pub le : from ≤ low
    pub ok : OkAmong graph evidence costs c from low
    pub some : FaultWithin low span ⊎ (length costs < low + span)

  pub range_start : from ≤ length costs → IsRange from (length costs - from + 1)
  range_start le = record { le = omega arith; ok = λ part l h lt o s is. absurd (omega arith); some = inr (omega arith) }

  module _ (low span count g : ℕ) (le : g ≤ count) (some_size : 0 < (span + count) / (count + 1)) where
    size : ℕ
    size = (span + count) / (count + 1)

    abbrev groups : Groups
    groups = record { low = low; size = (span + count) / (count + 1); some = some_size }

    pub range_next : (g < count → FaultOf graph evidence costs c (record { low = low; size = (span + count) / (count + 1); some = some_size }) g) → ((h : ℕ) → h < g → FaultOf graph evidence costs c (record { low = low; size = (span + count) / (count + 1); some = some_size }) h → ⊥)
        → IsRange low span → IsRange (low + g * ((span + count) / (count + 1))) ((span + count) / (count + 1))
    range_next found none is = record {
      le = omega (arith, is.le);
      ok = before;
      some = ⊎_elim (λ (p : g < count). inl (in_group (found p))) (λ (p : count ≤ g). at_end p is.some) (cases_lt g count);
    } where
      s : ℕ
      s = (span + count) / (count + 1)

      before : OkAmong graph evidence costs c from (low + g * ((span + count) / (count + 1)))
      before part l h lt o state p = ⊎_elim
          (λ (q : part < low). is.ok part l q lt o state p)
          (λ (q : low ≤ part). true_from_ne_false (bit_in state part) (λ e. none ((part - low) / ((span + count) / (count + 1))) (div_below (part - low) ((span + count) / (count + 1)) g some_size (omega arith))
          (record { state = state; is = p; part = part; within = lt; open_ = o; faulty = e; low = q; group = refl })))
          (cases_lt part low)

      in_group : FaultOf graph evidence costs c (record { low = low; size = (span + count) / (count + 1); some = some_size }) g → FaultWithin (low + g * ((span + count) / (count + 1))) ((span + count) / (count + 1))
      in_group f = grind (arith, div-mul-le_self, lt-div-mul-add)

      -- the groups and one more reach the end
      reach : count ≤ g → low + span ≤ low + g * ((span + count) / (count + 1)) + (span + count) / (count + 1)
      reach p = grind arith

      at_end : count ≤ g → FaultWithin low span ⊎ (length costs < low + span) → FaultWithin (low + g * ((span + count) / (count + 1))) ((span + count) / (count + 1)) ⊎ (length costs < low + g * ((span + count) / (count + 1)) + (span + count) / (count + 1))
      at_end p s = grind (arith, before, reach, is.le)

-- the passes that are left for a range
pub record PassesLeft (count span steps most : ℕ) : Type 0 where
  pub rest : ℕ
  pub fits : span ≤ (count + 1) ^ rest
  pub few : steps + rest ≤ most

pub left_next : (count span steps most : ℕ) → 1 < span → PassesLeft count span steps most → PassesLeft count ((span + count) / (count + 1)) (steps + 1) most
left_next count span steps most more left = by_rest left.rest left.fits left.few where
  by_rest : (rest : ℕ) → span ≤ (count + 1) ^ rest → steps + rest ≤ most → PassesLeft count ((span + count) / (count + 1)) (steps + 1) most
  by_rest zero fits few = grind (arith, pow-zero (count + 1))
  by_rest (suc r) fits few = grind (arith, div_below (span + count) (count + 1) ((count + 1) ^ r + 1), pow-suc (count + 1) r)

-- numbers of the range stay small
pub range_small : (low span count g : ℕ) → g ≤ count → count ≤ 32 → 0 < count → 1 < span → low + g * ((span + count) / (count + 1)) + 33 * ((span + count) / (count + 1)) ≤ low + 33 * span
range_small low span count g le few some more = grind arith
