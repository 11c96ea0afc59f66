-- The words of another case, once they are taken up.
use Rattle.std.proofs.Common.{◌≡◌, ◌∙◌, ◌+◌, ◌++◌, ℕ, List, Option, length, take, drop, ap, sym, subst}
use Rattle.std.proofs.Math.Seq.{take-append_seam}
use Rattle.text_rules.specs.Names.{Name}
use Rattle.clause_answers.specs.Questions.{Question}
use Rattle.session_rules.specs.CaseEvidence.{IsEvidence}
use Rattle.engines.specs.Offered.{IsEvidenceOf}
use Rattle.engines.proofs.TakenUp.{taken-are}
use Rattle.search_engine.specs.Searched.{OnClauses, about_of}
use Rattle.search_engine.specs.inner.Held.{IsSearched, subject_of}

-- a list that is lent whole and written back, once words were written over the first ones
pub written : (len : ℕ) (new evidence lent items : List ℕ) (count : ℕ) → len ≡ length new → new ≡ evidence ++ drop (length evidence) lent → lent ≡ items → length evidence ≡ count
    → take len (new ++ drop (length new) items) ≡ evidence ++ drop count items
written len new evidence lent items count long is same counted =
    ap (λ (k : ℕ). take k (new ++ drop (length new) items)) long ∙ (take-append_seam new (drop (length new) items) ∙ (is ∙ (λ i. evidence ++ drop (counted i) (same i))))

module _ (parts wires : List Name) (search : Question) (top : Option ℕ) (known : List ℕ) (is : IsSearched (subject_of parts wires search top) known search.evidence) (evidence : List ℕ) where
  -- the evidence is that of a case of the subject
  pub evidence-fits : (now : OnClauses) → record { subject = subject_of parts wires search top; known = known } ≡ now → IsEvidenceOf (about_of now).system evidence
      → IsEvidence (length parts) (length wires) (length parts + length wires) evidence
  evidence-fits now shown = subst (λ (e : OnClauses). IsEvidenceOf (about_of e).system evidence) (sym shown)

  module _ (fits : IsEvidence (length parts) (length wires) (length parts + length wires) evidence) (after : List ℕ) (taken : after ≡ evidence ++ drop (length parts + length wires) known) where
    pub taken-words : IsEvidence (length parts) (length wires) search.cnf.vars after
    taken-words = subst (IsEvidence (length parts) (length wires) search.cnf.vars) (sym taken) (taken-are (length parts) (length wires) search.cnf.vars known is.words evidence fits)

    pub taken-searched : (heard : List ℕ) → heard ≡ after → (new : Question) → new ≡ record search { evidence = heard } → IsSearched (subject_of parts wires new top) after new.evidence
    taken-searched heard same new e = subst (λ (q : Question). IsSearched (subject_of parts wires q top) after q.evidence) (sym e) (record {
      costs = is.costs;
      vars = is.vars;
      few_parts = is.few_parts;
      few_wires = is.few_wires;
      parts_rise = is.parts_rise;
      wires_rise = is.wires_rise;
      words = taken-words;
      same = same;
    })
