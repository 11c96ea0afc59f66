-- The first state of least cost, and the next.
use Rattle.std.proofs.Common.{◌≡◌, ℕ, ◌≤◌, Bool, true, List, [], length, get_or, Some, None, sym, arith}
use Rattle.std.specs.List.{filter}
use Rattle.state_rules.specs.Ranking.{cost, least, is_at_most, is_before, rest, states}
use Rattle.state_rules.specs.Graphs.{Graph}
use Rattle.state_rules.proofs.Members.{In, In-filter, In-filtered, empty-none}
use Rattle.state_rules.proofs.Order.{Sorted, Sorted-states, Sorted-filter, first-sorted}
use Rattle.conditioner.specs.Models.{has_model, fits_evidence, models, least_under, diagnoses_under}
use Rattle.minimiser.specs.LeastStates.{ModelWithin, LeastState}
use Rattle.diagnosis_lister.specs.declared.listing.Step.TheVariants.{Found, End}
use Rattle.diagnosis_lister.specs.Listing.{step_of}
use Rattle.diagnosis_lister.specs.inner.Fixing.{IsFirst, NoneAfter, Has}
use Rattle.state_rules.proofs.Diagnoses.{least-none}
use Rattle.minimiser.proofs.Models.{least-passes, least-some, least-refined, passes-least, diagnosis-in, diagnosis-out, Refines, LeastIs}

-- ---- lists of states

module _ (graph : Graph) (evidence costs : List ℕ) (most : ℕ) (e : LeastIs graph costs evidence most) where
  abbrev pub ds : List (List Bool)
  ds = diagnoses_under graph evidence costs

  sorted : Sorted ds
  sorted = Sorted-filter (λ h. is_at_most (cost costs h) (least_under graph evidence costs)) (models graph evidence (length costs)) (Sorted-filter (has_model graph (fits_evidence evidence) (length costs)) (states (length costs)) (Sorted-states (length costs)))

  pub first-diagnosis : (h d : List Bool) → IsFirst (ModelWithin graph evidence costs most) h → h ≡ get_or (diagnoses_under graph evidence costs) 0 d
  first-diagnosis h d is = sym (first-sorted ds h d sorted (diagnosis-in graph evidence costs most e h is.meets) (λ k m. is.before k (diagnosis-out graph evidence costs most e k m)))

  abbrev pub Later : List Bool → List Bool → Type 0
  Later point h = ModelWithin graph evidence costs most h × (is_before point h ≡ true)

  later-in : (point h : List Bool) → Later point h → In h (rest (diagnoses_under graph evidence costs) (Some point))
  later-in point h l = In-filtered (is_before point) h ds (diagnosis-in graph evidence costs most e h l.0) l.1

  pub next-diagnosis : (point h d : List Bool) → IsFirst (Later point) h → h ≡ get_or (rest (diagnoses_under graph evidence costs) (Some point)) 0 d
  next-diagnosis point h d is = grind (arith, first-sorted, Sorted-filter, sorted, later-in, In-filter, diagnosis-out)

  pub no-next : (point : List Bool) → NoneAfter (ModelWithin graph evidence costs most) point 0 → rest (diagnoses_under graph evidence costs) (Some point) ≡ []
  no-next point none = empty-none (filter (is_before point) ds) (λ h m. let r = In-filter (is_before point) h ds m in none h (diagnosis-out graph evidence costs most e h r.0) (λ i lt. absurd (omega arith)) r.1)

  some_model : (ms : List (List Bool)) → least costs ms ≡ Some most → (later : List (List Bool)) → later ≡ [] → step_of ms later ≡ End
  some_model ms q later f = grind arith

  pub step-end : (point : List Bool) → NoneAfter (ModelWithin graph evidence costs most) point 0 → End ≡ step_of (models graph evidence (length costs)) (rest (diagnoses_under graph evidence costs) (Some point))
  step-end point none = grind (arith, some_model, no-next point none)

  some_later : (ms : List (List Bool)) → least costs ms ≡ Some most → (h : List Bool) (later : List (List Bool)) → In h later → step_of ms later ≡ Found
  some_later ms q h later m = grind arith

  pub step-found : (point h : List Bool) → IsFirst (Later point) h → Found ≡ step_of (models graph evidence (length costs)) (rest (diagnoses_under graph evidence costs) (Some point))
  step-found point h is = grind (arith, some_later, later-in point h is.meets)

-- ---- no state

pub none-first : (graph : Graph) (evidence costs : List ℕ) (d : List Bool) → least_under graph evidence costs ≡ None → d ≡ get_or (diagnoses_under graph evidence costs) 0 d
none-first graph evidence costs d e = simp (least-none costs (models graph evidence (length costs)) e)

pub none-next : (graph : Graph) (evidence costs : List ℕ) (point d : List Bool) → least_under graph evidence costs ≡ None → d ≡ get_or (rest (diagnoses_under graph evidence costs) (Some point)) 0 d
none-next graph evidence costs point d e = simp (least-none costs (models graph evidence (length costs)) e)

-- ---- states of least cost

pub has-least : (graph : Graph) (costs : List ℕ) (within : length costs ≤ graph.vars) (evidence : List ℕ) (most : ℕ) → LeastIs graph costs evidence most → Has (ModelWithin graph evidence costs most)
has-least graph costs within evidence most e = let s = least-some graph costs within evidence most e in record { state = s.state; is = s.passes }

-- evidence that says more has the same least cost if it allows a state of that cost
pub least-has : (graph : Graph) (costs : List ℕ) (within : length costs ≤ graph.vars) (old new : List ℕ) (most : ℕ) → length old ≡ graph.vars → Refines (length costs) old new → LeastIs graph costs old most → Has (ModelWithin graph new costs most)
    → LeastIs graph costs new most
least-has graph costs within old new most long r e h = least-refined graph costs within old new most h.state long r e h.is

pub first-least : (graph : Graph) (evidence costs : List ℕ) (most : ℕ) (h : List Bool) → LeastIs graph costs evidence most → IsFirst (ModelWithin graph evidence costs most) h → IsFirst (LeastState graph evidence costs) h
first-least graph evidence costs most h e is = record { meets = passes-least graph evidence costs most h e is.meets; before = λ k l. is.before k (least-passes graph evidence costs most k e l) }

pub first-passes : (graph : Graph) (evidence costs : List ℕ) (most : ℕ) (h : List Bool) → LeastIs graph costs evidence most → IsFirst (LeastState graph evidence costs) h → IsFirst (ModelWithin graph evidence costs most) h
first-passes graph evidence costs most h e is = record { meets = least-passes graph evidence costs most h e is.meets; before = λ k p. is.before k (passes-least graph evidence costs most k e p) }
