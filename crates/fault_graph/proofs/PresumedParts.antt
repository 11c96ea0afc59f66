-- What is presumed of all parts, and what the first diagnosis says of it.
use Rattle.std.proofs.Common.{◌≡◌, ℕ, zero, suc, ◌<◌, ◌≤◌, Bool, true, false, cond, List, [], ◌∷◌, length, get_or, Some, refl, ap, sym, ◌∙◌, subst, inl, inr, arith}
use Rattle.std.specs.Prelude.{◌↔◌, ◌==◌, slice_get}
use Rattle.std.proofs.lemmas.Bool.{false≢true, eqb-true, eq-eqb, true_from_ne_false}
use Rattle.std.proofs.lemmas.List.{get_or_default}
use Rattle.state_rules.specs.Bits.{bit_in}
use Rattle.state_rules.proofs.Members.{In, In-at}
use Rattle.state_rules.specs.Graphs.{Graph}
use Rattle.conditioner.specs.Models.{diagnoses_under}
use Rattle.minimiser.specs.LeastStates.{ModelWithin, Suspect}
use Rattle.minimiser.proofs.Models.{Agree, Agree-bit, ModelWithin-agrees, LeastIs, least-some, passes-least, diagnosis-in, diagnosis-out}
use Rattle.state_rules.specs.declared.blame.Blame.{Blame}
use Rattle.state_rules.specs.declared.blame.Blame.TheVariants.{Sometimes, Never}
use Rattle.probe_report.specs.Verdicts.{blame_of}
use Rattle.probe_report.proofs.Blames.{all-ok, all-faulty, some-differ}
use Rattle.fault_graph.specs.inner.Presumed.{presumed, IsPresumed}

module _ (graph : Graph) (evidence costs : List ℕ) (most : ℕ) (within : length costs ≤ graph.vars) (e : LeastIs graph costs evidence most) where
  abbrev all : List (List Bool)
  all = diagnoses_under graph evidence costs

  some : 0 < length all
  some = let one = least-some graph costs within evidence most e in by_member all one.state (diagnosis-in graph evidence costs most e one.state one.passes) where
    by_member : (ds : List (List Bool)) (h : List Bool) → In h ds → 0 < length ds
    by_member [] h m = absurd m
    by_member (d ∷ ds) h m = omega arith

  pub first-passes-all : (d : List Bool) → ModelWithin graph evidence costs most (get_or (diagnoses_under graph evidence costs) 0 d)
  first-passes-all d = diagnosis-out graph evidence costs most e _ (In-at all 0 d some)

  pub first-same : (c d : List Bool) → get_or (diagnoses_under graph evidence costs) 0 c ≡ get_or (diagnoses_under graph evidence costs) 0 d
  first-same c d = get_or_default all 0 c d some

module _ (graph : Graph) (evidence costs : List ℕ) (i most : ℕ) (lt : i < length costs) (within : length costs ≤ graph.vars) (long : length evidence ≡ graph.vars) (e : LeastIs graph costs evidence most) where
  -- what is presumed, of a part that is a suspect or not
  pub presumed-right : (suspect : ℕ) → (suspect ≡ 1) ↔ Suspect graph evidence costs i → (verdicts : List Blame) → slice_get verdicts i ≡ Some (presumed (get_or evidence i 0) suspect) → IsPresumed graph evidence costs verdicts i
  presumed-right suspect is verdicts f = by_word (get_or evidence i 0) refl (suspect == 1) refl where
    by_word : (w : ℕ) → get_or evidence i 0 ≡ w → (b : Bool) → (suspect == 1) ≡ b → IsPresumed graph evidence costs verdicts i
    by_word zero q true t = inr (is.0 (eqb-true suspect 1 t), f ∙ (λ j. Some (presumed (q j) suspect)) ∙ (λ j. Some (cond (t j) Sometimes Never)))
    by_word zero q false t = inl (f ∙ (λ j. Some (presumed (q j) suspect)) ∙ (λ j. Some (cond (t j) Sometimes Never)) ∙ ap Some (all-ok graph evidence costs i most lt within e ok)) where
      ok : (h : List Bool) → ModelWithin graph evidence costs most h → bit_in h i ≡ true
      ok h p = true_from_ne_false (bit_in h i) (λ r. false≢true (sym t ∙ eq-eqb suspect 1 (is.1 (record { within = lt; open_ = q; state = h; is_least = passes-least graph evidence costs most h e p; faulty = r }))))
    by_word (suc zero) q b t = inl (f ∙ (λ j. Some (presumed (q j) suspect)) ∙ ap Some (all-ok graph evidence costs i most lt within e (λ h p. Agree-bit true (bit_in h i) (subst (λ w. Agree w (bit_in h i)) q (ModelWithin-agrees graph costs within evidence most h long p i lt)))))
    by_word (suc (suc n)) q b t = inl (f ∙ (λ j. Some (presumed (q j) suspect)) ∙ ap Some (all-faulty graph evidence costs i most lt within e (λ h p. Agree-bit false (bit_in h i) (subst (λ w. Agree w (bit_in h i)) q (ModelWithin-agrees graph costs within evidence most h long p i lt)))))

  -- a part that is ok or not open in some diagnosis needs no pass
  pub presumed-stays : (verdicts : List Blame) (h : List Bool) → ModelWithin graph evidence costs most h → (get_or evidence i 0 ≡ 0 → bit_in h i ≡ true) → IsPresumed graph evidence costs verdicts i → slice_get verdicts i ≡ Some (blame_of graph evidence costs i)
  presumed-stays verdicts h p ok p4 = grind (arith, some-differ)
