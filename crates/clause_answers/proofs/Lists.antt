-- The lists of states: diagnoses, and states by rising cost.
use Rattle.std.proofs.Common.{◌≡◌, ℕ, zero, suc, ◌+◌, ◌<◌, ◌≤◌, Bool, true, false, ◌&&◌, List, [], ◌∷◌, ◌++◌, length, take, get_or, Option, Some, None, refl, sym, ap, ◌∙◌, subst, arith, inl, inr, ⊎_elim}
use Rattle.std.specs.Prelude.{◌⊎◌, ◌==◌}
use Rattle.std.specs.List.{filter}
use Rattle.std.proofs.Math.Bool.{and-true}
use Rattle.std.proofs.lemmas.Bool.{leb-true, le-leb, eqb-true, eq-eqb}
use Rattle.std.proofs.lemmas.Bool.Decides.{nat_tests}
use Rattle.state_rules.specs.Bits.{bit_in, lists_of_bits}
use Rattle.state_rules.specs.Assignments.{assignment}
use Rattle.state_rules.specs.Ranking.{Test, cost, least, is_at_most, is_before, rest, states}
use Rattle.state_rules.specs.Levels.{of_cost, levels, is_level_before, levels_rest}
use Rattle.state_rules.proofs.Members.{In, In-filter, In-filtered, bits_in, bits_length, empty-none}
use Rattle.state_rules.proofs.Order.{Sorted, Sorted-states, Sorted-filter, first-sorted}
use Rattle.node_costs.proofs.States.{least-out}
use Rattle.conditioner.specs.Models.{fits_evidence}
use Rattle.state_rules.proofs.Diagnoses.{least-none}
use Rattle.diagnosis_lister.specs.declared.listing.Step.TheVariants.{Found, End, Inconsistent}
use Rattle.diagnosis_lister.specs.Listing.{step_of}
use Rattle.diagnosis_lister.specs.inner.Fixing.{IsFirst, Has}
use Rattle.clause_search.specs.Searching.{all_true}
use Rattle.clause_answers.specs.Questions.{Question, has_model, models, least_under, diagnoses_under}
use Rattle.clause_answers.specs.inner.Asking.{Fits}
use Rattle.clause_answers.specs.inner.Listed.{Meets, Shows, is_after, FindsNext}
use Rattle.clause_answers.proofs.Completing.{shows-long}
use Rattle.clause_answers.proofs.States.{Completes, model-from, model-to}

module _ (q : Question) (within : length q.costs ≤ q.cnf.vars) where
  abbrev test : Test
  test = has_model q.cnf (fits_evidence q.evidence) (length q.costs)

  pub shows-in : (low high : ℕ) (h : List Bool) → Shows q low high h → In h (models q)
  shows-in low high h s = In-filtered test h (states (length q.costs)) (subst (λ n. In h (lists_of_bits n)) (shows-long q low high within h s) (bits_in h))
      (model-from q.cnf (length q.costs) (fits_evidence q.evidence) within h (record { bits = s.bits; long = s.meets.fits.long; passes = s.meets.fits.agrees; holds = s.meets.fits.holds; begins = s.begins }))

  pub shows-low : (low high : ℕ) (h : List Bool) → Shows q low high h → low ≤ cost q.costs h
  shows-low low high h s = subst (λ k. low ≤ cost q.costs k) s.begins s.meets.low_is

  pub shows-high : (low high : ℕ) (h : List Bool) → Shows q low high h → cost q.costs h ≤ high
  shows-high low high h s = subst (λ k. cost q.costs k ≤ high) s.begins s.meets.high_is

  pub in-shows : (low high : ℕ) (h : List Bool) → In h (models q) → low ≤ cost q.costs h → cost q.costs h ≤ high → Shows q low high h
  in-shows low high h m le ge =
      let r = In-filter test h (states (length q.costs)) m in
      let c = model-to q.cnf (length q.costs) (fits_evidence q.evidence) within h (bits_length (length q.costs) h r.0) r.1 in
      record {
        bits = c.bits;
        meets = record { fits = record { long = c.long; agrees = c.passes; holds = c.holds }; low_is = subst (λ k. low ≤ cost q.costs k) (sym c.begins) le; high_is = subst (λ k. cost q.costs k ≤ high) (sym c.begins) ge };
        begins = c.begins;
      }

  pub Sorted-models : Sorted (models q)
  Sorted-models = Sorted-filter test (states (length q.costs)) (Sorted-states (length q.costs))

  -- ---- the diagnoses

  module _ (n : ℕ) (e : least_under q ≡ Some n) where
    abbrev is_low : List Bool → Bool
    is_low h = is_at_most (cost q.costs h) (least_under q)

    pub least-low : (h : List Bool) → In h (models q) → n ≤ cost q.costs h
    least-low h m =
        let r = In-filter test h (states (length q.costs)) m in
        (least-out q.costs (length q.costs) test (Some n) e).1 (cost q.costs h) (record { state = h; long = bits_length (length q.costs) h r.0; passes = r.1; cost_is = refl })

    pub least-shown : Has (Shows q n n)
    least-shown =
        let r = (least-out q.costs (length q.costs) test (Some n) e).0 in
        record { state = r.state; is = in-shows n n r.state (In-filtered test r.state (states (length q.costs)) (subst (λ k. In r.state (lists_of_bits k)) r.long (bits_in r.state)) r.passes) (omega (arith, r.cost_is)) (omega (arith, r.cost_is)) }

    pub diagnosis-in : (h : List Bool) → Shows q n n h → In h (diagnoses_under q)
    diagnosis-in h s = In-filtered is_low h (models q) (shows-in n n h s) (ap (is_at_most (cost q.costs h)) e ∙ le-leb (cost q.costs h) n (shows-high n n h s))

    pub diagnosis-out : (h : List Bool) → In h (diagnoses_under q) → Shows q n n h
    diagnosis-out h m =
        let r = In-filter is_low h (models q) m in
        in-shows n n h r.0 (least-low h r.0) (leb-true (cost q.costs h) n (sym (ap (is_at_most (cost q.costs h)) e) ∙ r.1))

    rest-in : (point : Option (List Bool)) (h : List Bool) → Shows q n n h → is_after point h ≡ true → In h (rest (diagnoses_under q) point)
    rest-in None h s a = diagnosis-in h s
    rest-in (Some p) h s a = In-filtered (is_before p) h (diagnoses_under q) (diagnosis-in h s) a

    rest-out : (point : Option (List Bool)) (h : List Bool) → In h (rest (diagnoses_under q) point) → Shows q n n h × (is_after point h ≡ true)
    rest-out None h m = (diagnosis-out h m, refl)
    rest-out (Some p) h m = let r = In-filter (is_before p) h (diagnoses_under q) m in (diagnosis-out h r.0, r.1)

    Sorted-rest : (point : Option (List Bool)) → Sorted (rest (diagnoses_under q) point)
    Sorted-rest None = Sorted-filter is_low (models q) Sorted-models
    Sorted-rest (Some p) = Sorted-filter (is_before p) (diagnoses_under q) (Sorted-filter is_low (models q) Sorted-models)

    none-rest : (point : Option (List Bool)) (old new : List Bool) → FindsNext q n point false old new → rest (diagnoses_under q) point ≡ []
    none-rest point old new f = empty-none (rest (diagnoses_under q) point) (λ h m. let r = rest-out point h m in f.1 h r.0 r.1)

    pub next-state : (point : Option (List Bool)) (found : Bool) (old new : List Bool) → FindsNext q n point found old new → new ≡ get_or (rest (diagnoses_under q) point) 0 old
    next-state point false old new f = f.0 ∙ sym (ap (λ hs. get_or hs 0 old) (none-rest point old new f))
    next-state point true old new f =
        sym (first-sorted (rest (diagnoses_under q) point) new old (Sorted-rest point) (rest-in point new f.meets.0 f.meets.1) (λ k m. f.before k (rest-out point k m)))

    some-step : (ms later : List (List Bool)) (h : List Bool) → In h ms → In h later → Found ≡ step_of ms later
    some-step ms later h m k = grind arith

    none-step : (ms : List (List Bool)) → least q.costs ms ≡ Some n → End ≡ step_of ms []
    none-step ms f = grind arith

    pub step-found : (point : Option (List Bool)) (old new : List Bool) → FindsNext q n point true old new → Found ≡ step_of (models q) (rest (diagnoses_under q) point)
    step-found point old new f = some-step (models q) (rest (diagnoses_under q) point) new (shows-in n n new f.meets.0) (rest-in point new f.meets.0 f.meets.1)

    pub step-end : (point : Option (List Bool)) (old new : List Bool) → FindsNext q n point false old new → End ≡ step_of (models q) (rest (diagnoses_under q) point)
    step-end point old new f = none-step (models q) e ∙ ap (step_of (models q)) (sym (none-rest point old new f))

-- ---- no state

pub none-state : (q : Question) (point : Option (List Bool)) (d : List Bool) → least_under q ≡ None → d ≡ get_or (rest (diagnoses_under q) point) 0 d
none-state q None d e = simp (least-none q.costs (models q) e)
none-state q (Some p) d e = simp (least-none q.costs (models q) e)

pub step-none : (q : Question) (later : List (List Bool)) → least_under q ≡ None → Inconsistent ≡ step_of (models q) later
step-none q later e = simp (least-none q.costs (models q) e)
