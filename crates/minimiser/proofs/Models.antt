-- The states that a graph allows, when evidence changes.
use Rattle.std.proofs.Common.{◌≡◌, ◌≢◌, ℕ, ◌-◌, ◌<◌, ◌≤◌, Bool, true, ◌&&◌, List, [], ◌∷◌, ◌++◌, length, get_or, Some, None, refl, ap, sym, ◌∙◌, subst, arith, length-append}
use Rattle.std.proofs.lemmas.Bool.{leb-true}
use Rattle.std.proofs.lemmas.Option.{same_Some}
use Rattle.state_rules.specs.Bits.{bit_in, lists_of_bits}
use Rattle.state_rules.specs.Cases.{agrees_at}
use Rattle.state_rules.specs.Ranking.{cost, least, is_at_most, states}
use Rattle.state_rules.specs.Graphs.{Graph, holds}
use Rattle.state_rules.proofs.Members.{In, In-filter, In-filtered, bits_in, bits_length, any_from, any_in}
use Rattle.state_rules.proofs.Bits.{bit_in-front}
use Rattle.conditioner.specs.Evidence.{known_of, word_of}
use Rattle.conditioner.specs.Models.{has_model, fits_evidence, models, least_under, diagnoses_under}
use Rattle.conditioner.proofs.FittingEvidence.{fits_evidence-at, fits_evidence-from}
use Rattle.node_costs.proofs.States.{least-out, least-in}
use Rattle.minimiser.specs.LeastStates.{ModelWithin, LeastState}

-- a bit that agrees with a word
abbrev pub Agree : ℕ → Bool → Type 0
Agree word bit = agrees_at (known_of word) bit ≡ true

pub Agree-bit : (b bit : Bool) → Agree (word_of b) bit → bit ≡ b
Agree-bit b bit e = grind arith

pub Agree-same : (bit : Bool) → Agree (word_of bit) bit
Agree-same bit = grind arith

-- evidence that says the same, and may say more of open parts
pub record Refines (parts : ℕ) (old new : List ℕ) : Type 0 where
  pub long : length new ≡ length old
  pub kept : (k : ℕ) → get_or old k 0 ≢ 0 → get_or new k 0 ≡ get_or old k 0
  pub others : (k : ℕ) → parts ≤ k → get_or new k 0 ≡ get_or old k 0

abbrev pub LeastIs : Graph → List ℕ → List ℕ → ℕ → Type 0
LeastIs graph costs evidence most = least_under graph evidence costs ≡ Some most

-- some state passes
pub record HasState (graph : Graph) (evidence costs : List ℕ) (most : ℕ) : Type 0 where
  pub state : List Bool
  pub passes : ModelWithin graph evidence costs most state

module _ (graph : Graph) (costs : List ℕ) (within : length costs ≤ graph.vars) where
  -- a state that the evidence allows has the bits that the evidence says of parts
  pub model-agrees : (evidence : List ℕ) (h : List Bool) → length evidence ≡ graph.vars → length h ≡ length costs → has_model graph (fits_evidence evidence) (length costs) h ≡ true
      → (i : ℕ) → i < length costs → Agree (get_or evidence i 0) (bit_in h i)
  model-agrees evidence h long l m i lt =
      let r = any_from (λ others. fits_evidence evidence (h ++ others) && holds graph (h ++ others)) (lists_of_bits (graph.vars - length costs)) m in
      let len : length r.item ≡ graph.vars - length costs = bits_length (graph.vars - length costs) r.item r.is_in in
      grind (arith, bit_in-front, fits_evidence-at, length-append)

  -- a state that the evidence allows is allowed by other evidence that it agrees with and that says the same of the other variables
  pub model-moved : (evidence others : List ℕ) (h : List Bool) → length evidence ≡ graph.vars → length others ≡ graph.vars → length h ≡ length costs → has_model graph (fits_evidence evidence) (length costs) h ≡ true
      → ((i : ℕ) → i < length costs → Agree (get_or others i 0) (bit_in h i)) → ((i : ℕ) → length costs ≤ i → get_or others i 0 ≡ get_or evidence i 0) → has_model graph (fits_evidence others) (length costs) h ≡ true
  model-moved evidence others h long long' l m agree same =
      let r = any_from (λ rest. fits_evidence evidence (h ++ rest) && holds graph (h ++ rest)) (lists_of_bits (graph.vars - length costs)) m in
      let len : length r.item ≡ graph.vars - length costs = bits_length (graph.vars - length costs) r.item r.is_in in
      let all : length (h ++ r.item) ≡ graph.vars = omega (arith, length-append h r.item) in
      grind (arith, any_in, fits_evidence-from, bit_in-front, fits_evidence-at)

  pub ModelWithin-old : (old new : List ℕ) (most : ℕ) (h : List Bool) → length old ≡ graph.vars → Refines (length costs) old new → ModelWithin graph new costs most h → ModelWithin graph old costs most h
  ModelWithin-old old new most h long r p = grind (arith, model-moved, model-agrees)

  pub ModelWithin-new : (old new : List ℕ) (most : ℕ) (h : List Bool) → length old ≡ graph.vars → Refines (length costs) old new → ModelWithin graph old costs most h
      → ((i : ℕ) → i < length costs → Agree (get_or new i 0) (bit_in h i)) → ModelWithin graph new costs most h
  ModelWithin-new old new most h long r p agree = grind (arith, model-moved)

  pub ModelWithin-agrees : (evidence : List ℕ) (most : ℕ) (h : List Bool) → length evidence ≡ graph.vars → ModelWithin graph evidence costs most h → (i : ℕ) → i < length costs → Agree (get_or evidence i 0) (bit_in h i)
  ModelWithin-agrees evidence most h long p i lt = model-agrees evidence h long p.long p.model i lt

  -- no state that the evidence allows costs less
  pub least-low : (evidence : List ℕ) (most : ℕ) (h : List Bool) → LeastIs graph costs evidence most → length h ≡ length costs → has_model graph (fits_evidence evidence) (length costs) h ≡ true → most ≤ cost costs h
  least-low evidence most h e l m = (least-out costs (length costs) _ (Some most) e).1 (cost costs h) (record { state = h; long = l; passes = m; cost_is = refl })

  pub least-some : (evidence : List ℕ) (most : ℕ) → LeastIs graph costs evidence most → HasState graph evidence costs most
  least-some evidence most e =
      let s = (least-out costs (length costs) _ (Some most) e).0 in
      record { state = s.state; passes = record { long = s.long; model = s.passes; cheap = omega (arith, s.cost_is) } }

  -- if a state of least cost passes under evidence that says more, the least cost is the same
  pub least-refined : (old new : List ℕ) (most : ℕ) (h : List Bool) → length old ≡ graph.vars → Refines (length costs) old new → LeastIs graph costs old most → ModelWithin graph new costs most h → LeastIs graph costs new most
  least-refined old new most h long r e p = least-in costs (length costs) (has_model graph (fits_evidence new) (length costs)) (Some most) (
    record { state = h; long = p.long; passes = p.model; cost_is = omega (arith, p.cheap, low h p.long p.model) },
    λ n s. omega (arith, low s.state s.long s.passes, s.cost_is),
  ) where
    low : (k : List Bool) → length k ≡ length costs → has_model graph (fits_evidence new) (length costs) k ≡ true → most ≤ cost costs k
    low k l m =
        let t = ModelWithin-old old new (cost costs k) k long r (record { long = l; model = m; cheap = omega arith }) in
        least-low old most k e t.long t.model

-- ---- the diagnoses

module _ (graph : Graph) (evidence costs : List ℕ) (most : ℕ) (e : LeastIs graph costs evidence most) where
  abbrev pub ds : List (List Bool)
  ds = diagnoses_under graph evidence costs

  abbrev is_low : List Bool → Bool
  is_low h = is_at_most (cost costs h) (least_under graph evidence costs)

  low-out : (h : List Bool) → is_low h ≡ true → cost costs h ≤ most
  low-out h t = leb-true (cost costs h) most (sym (ap (is_at_most (cost costs h)) e) ∙ t)

  -- the diagnoses are the states that pass
  pub diagnosis-in : (h : List Bool) → ModelWithin graph evidence costs most h → In h ds
  diagnosis-in h p = grind (arith, In-filtered, bits_in)

  pub diagnosis-out : (h : List Bool) → In h ds → ModelWithin graph evidence costs most h
  diagnosis-out h m =
      let a = In-filter is_low h (models graph evidence (length costs)) m in
      let b = In-filter (has_model graph (fits_evidence evidence) (length costs)) h (states (length costs)) a.0 in
      record { long = bits_length (length costs) h b.0; model = b.1; cheap = low-out h a.1 }

-- ---- states of least cost

pub least-passes : (graph : Graph) (evidence costs : List ℕ) (most : ℕ) (h : List Bool) → LeastIs graph costs evidence most → LeastState graph evidence costs h → ModelWithin graph evidence costs most h
least-passes graph evidence costs most h e l = subst (λ n. ModelWithin graph evidence costs n h) (same_Some l.most most (sym l.least_is ∙ e)) l.passes

pub passes-least : (graph : Graph) (evidence costs : List ℕ) (most : ℕ) (h : List Bool) → LeastIs graph costs evidence most → ModelWithin graph evidence costs most h → LeastState graph evidence costs h
passes-least graph evidence costs most h e p = record { most = most; least_is = e; passes = p }
