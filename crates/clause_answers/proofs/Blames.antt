-- Verdicts on parts, from bits that were met.
use Rattle.std.proofs.Common.{◌≡◌, ℕ, ◌<◌, ◌≤◌, Bool, true, false, not, List, [], length, take, get_or, replicate, map, Some, None, refl, sym, ap, ◌∙◌, arith}
use Rattle.std.specs.Prelude.{slice_get}
use Rattle.std.proofs.lemmas.List.{get_or-replicate, length-replicate}
use Rattle.std.proofs.lemmas.Option.{slice_get-get_or}
use Rattle.state_rules.specs.Bits.{bit_in}
use Rattle.state_rules.proofs.Members.{In, empty-none}
use Rattle.state_rules.specs.declared.blame.Blame.{Blame}
use Rattle.state_rules.specs.declared.blame.Blame.TheVariants.{Always, Sometimes, Never, Inconsistent}
use Rattle.state_rules.specs.Verdicts.{verdict}
use Rattle.state_rules.proofs.Verdicts.{verdict-never, verdict-always, verdict-sometimes}
use Rattle.state_rules.proofs.Diagnoses.{least-none}
use Rattle.clause_answers.specs.Questions.{Question, models, least_under, diagnoses_under, blame_of}
use Rattle.clause_answers.specs.inner.Listed.{Meets}
use Rattle.clause_answers.specs.inner.Reported.{Seen, AllHave, Notes, Settles, AreNoted, AreSettled}
use Rattle.clause_answers.proofs.Completing.{shows-bit}
use Rattle.clause_answers.proofs.Lists.{diagnosis-in, diagnosis-out}

module _ (q : Question) (within : length q.costs ≤ q.cnf.vars) where
  -- the verdicts without a diagnosis
  pub none-blamed : (verdicts : List Blame) → verdicts ≡ replicate (length q.costs) Inconsistent → diagnoses_under q ≡ [] → (part : ℕ) → part < length q.costs
      → slice_get verdicts part ≡ Some (blame_of q part)
  none-blamed verdicts all none part lt =
      let long : length verdicts ≡ length q.costs = ap length all ∙ length-replicate (length q.costs) Inconsistent in
      let blame : Inconsistent ≡ blame_of q part = ap (λ ds. verdict (map (λ state. not (bit_in state part)) ds)) (sym none) in
      slice_get-get_or verdicts part Inconsistent (omega arith)
      ∙ ap Some (ap (λ k. get_or k part Inconsistent) all ∙ get_or-replicate (length q.costs) part Inconsistent Inconsistent lt ∙ blame)

  pub none-diagnoses : least_under q ≡ None → diagnoses_under q ≡ []
  none-diagnoses e = simp (least-none q.costs (models q) e)

  module _ (n : ℕ) (e : least_under q ≡ Some n) where
    pub no-bits : ((b : List Bool) → Meets q n n b → ⊥) → diagnoses_under q ≡ []
    no-bits none = empty-none (diagnoses_under q) (λ h m. let s = diagnosis-out q within n e h m in none s.bits s.meets)

    module _ (part : ℕ) (lt : part < length q.costs) where
      abbrev faulty : List Bool → Bool
      faulty state = not (bit_in state part)

      seen-in : (bit : Bool) (s : Seen q n n part bit) → In (take (length q.costs) s.bits) (diagnoses_under q)
      seen-in bit s = diagnosis-in q within n e (take (length q.costs) s.bits) (record { bits = s.bits; meets = s.meets; begins = refl })

      seen-bit : (bit : Bool) (s : Seen q n n part bit) → not (bit_in (take (length q.costs) s.bits) part) ≡ not bit
      seen-bit bit s = ap not (shows-bit q n n within _ (record { bits = s.bits; meets = s.meets; begins = refl }) part lt ∙ s.has)

      all-have : (bit : Bool) → AllHave q n n part bit → (h : List Bool) → In h (diagnoses_under q) → not (bit_in h part) ≡ not bit
      all-have bit all h m = let s = diagnosis-out q within n e h m in ap not (shows-bit q n n within h s part lt ∙ all s.bits s.meets)

      pub is-blame : (v : Blame) → Notes q n n part v → Settles q n n part v → v ≡ blame_of q part
      is-blame Always s all = verdict-always faulty (diagnoses_under q) _ (seen-in false s) (all-have false all)
      is-blame Sometimes s all = verdict-sometimes faulty (diagnoses_under q) _ _ (seen-in false s.0) (seen-in true s.1) (seen-bit false s.0) (seen-bit true s.1)
      is-blame Never s all = verdict-never faulty (diagnoses_under q) _ (seen-in true s) (all-have true all)
      is-blame Inconsistent s all = absurd s

    -- the verdicts that are noted and settled
    pub all-blamed : (verdicts : List Blame) → length verdicts ≡ length q.costs → AreNoted q n n verdicts → AreSettled q n n verdicts (length verdicts) → (part : ℕ) → part < length q.costs
        → slice_get verdicts part ≡ Some (blame_of q part)
    all-blamed verdicts long notes settled part lt =
        let few : part < length verdicts = omega arith in
        slice_get-get_or verdicts part Inconsistent few ∙ ap Some (is-blame part lt (get_or verdicts part Inconsistent) (notes part few) (settled part few))
