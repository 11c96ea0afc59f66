-- The states that have one more bit.
use Rattle.std.proofs.Common.{◌≡◌, ℕ, ◌-◌, ◌<◌, ◌≤◌, Bool, true, not, ◌&&◌, List, [], ◌++◌, length, get_or, set, Option, Some, ap, sym, ◌∙◌, arith}
use Rattle.std.proofs.Math.ListN.{length-set}
use Rattle.std.proofs.lemmas.Grind.{same_number_lists}
use Rattle.std.proofs.lemmas.List.{get_or-set_same, get_or-set_other}
use Rattle.state_rules.specs.Bits.{bit_in, same_bit, lists_of_bits}
use Rattle.state_rules.specs.Ranking.{Test, least, passing}
use Rattle.state_rules.proofs.Bits.{bit_in-front}
use Rattle.state_rules.proofs.Members.{any_from, any_in}
use Rattle.state_rules.specs.Graphs.{Graph, holds}
use Rattle.conditioner.specs.declared.leaves.Leaf.TheVariants.{True, False, Open}
use Rattle.conditioner.specs.Evidence.{known_of, word_of, leaf_of}
use Rattle.conditioner.specs.Models.{has_model, fits_evidence, models, models_with}
use Rattle.conditioner.proofs.FittingEvidence.{known_of-word_of, known-at}
use Rattle.conditioner.proofs.ModelsWith.{with_bit-open, with_bit-known, with_bit-other}
use Rattle.minimiser.specs.LeastStates.{ModelWithin}
use Rattle.node_costs.proofs.States.{least-out, least-in}
use Rattle.minimiser.proofs.Models.{LeastIs, least-low}

-- ---- a literal under the evidence

leaf-true : (b : Bool) (k : Option Bool) → True ≡ leaf_of b k → k ≡ Some b
leaf-true b k e = grind arith

leaf-false : (b : Bool) (k : Option Bool) → False ≡ leaf_of b k → k ≡ Some (not b)
leaf-false b k e = grind arith

pub leaf-open : (b : Bool) (word : ℕ) → Open ≡ leaf_of b (known_of word) → word ≡ 0
leaf-open b word e = grind arith

module _ (graph : Graph) (evidence costs : List ℕ) (var : ℕ) (bit : Bool) (long : length evidence ≡ graph.vars) (within : length costs ≤ graph.vars) (low : 1 ≤ var) (high : var ≤ graph.vars) where
  abbrev i : ℕ
  i = var - 1

  inside : i < graph.vars
  inside = omega (arith, low, high)

  pub with-true : True ≡ leaf_of bit (known_of (get_or evidence i 0)) → models graph evidence (length costs) ≡ models_with graph evidence (length costs) var bit
  with-true e = sym (with_bit-known graph evidence (length costs) i bit long within inside (known-at evidence i ∙ leaf-true bit _ e))

  pub with-open : Open ≡ leaf_of bit (known_of (get_or evidence i 0)) → models graph (set evidence i (word_of bit)) (length costs) ≡ models_with graph evidence (length costs) var bit
  with-open e = sym (with_bit-open graph evidence (length costs) i bit long within inside (word_of bit) (known_of-word_of bit) (known-at evidence i ∙ ap known_of (leaf-open bit _ e)))

  pub with-false : False ≡ leaf_of bit (known_of (get_or evidence i 0)) → models_with graph evidence (length costs) var bit ≡ []
  with-false e = with_bit-other graph evidence (length costs) i bit long within inside (known-at evidence i ∙ leaf-false bit _ e)

-- an open variable that was fixed is open again
pub loose-again : (evidence : List ℕ) (i word : ℕ) → i < length evidence → get_or evidence i 0 ≡ 0 → set (set evidence i word) i 0 ≡ evidence
loose-again evidence i word h e = grind (arith, same_number_lists, length-set, get_or-set_same, get_or-set_other)

-- ---- the states that have a bit

module _ (graph : Graph) (evidence costs : List ℕ) (i : ℕ) (bit : Bool) where
  abbrev pub with_bit : Test
  with_bit = has_model graph (λ bits. fits_evidence evidence bits && same_bit bit (bit_in bits i)) (length costs)

  -- the evidence allows them
  pub with-model : (h : List Bool) → with_bit h ≡ true → has_model graph (fits_evidence evidence) (length costs) h ≡ true
  with-model h e =
      let s = any_from (λ others. (fits_evidence evidence (h ++ others) && same_bit bit (bit_in (h ++ others) i)) && holds graph (h ++ others)) (lists_of_bits (graph.vars - length costs)) e in
      grind (arith, any_in)

  module _ (lt : i < length costs) where
    with-is : (h : List Bool) → length h ≡ length costs → with_bit h ≡ true → bit_in h i ≡ bit
    with-is h l e =
        let s = any_from (λ others. (fits_evidence evidence (h ++ others) && same_bit bit (bit_in (h ++ others) i)) && holds graph (h ++ others)) (lists_of_bits (graph.vars - length costs)) e in
        grind (arith, bit_in-front)

    with-in : (h : List Bool) → length h ≡ length costs → has_model graph (fits_evidence evidence) (length costs) h ≡ true → bit_in h i ≡ bit → with_bit h ≡ true
    with-in h l e f = grind (arith, bit_in-front)

    -- some diagnosis has the bit
    pub record HasBit (most : ℕ) : Type 0 where
      pub state : List Bool
      pub passes : ModelWithin graph evidence costs most state
      pub has : bit_in state i ≡ bit

    pub bit-out : (most : ℕ) → least costs (passing (length costs) with_bit) ≡ Some most → HasBit most
    bit-out most f =
        let s = (least-out costs (length costs) with_bit (Some most) f).0 in
        grind (arith, with-model, with-is)

    pub bit-in : (most : ℕ) → length costs ≤ graph.vars → LeastIs graph costs evidence most → (h : List Bool) → ModelWithin graph evidence costs most h → bit_in h i ≡ bit → least costs (passing (length costs) with_bit) ≡ Some most
    bit-in most within e h p f = least-in costs (length costs) with_bit (Some most) (
      grind (arith, with-in, least-low),
      λ n s. omega (arith, least-low graph costs within evidence most s.state e s.long (with-model s.state s.passes), s.cost_is),
    )
