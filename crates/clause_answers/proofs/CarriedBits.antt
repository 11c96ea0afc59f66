-- From bits of the variables of clauses to assignments that keep rules, and back.
use Rattle.std.proofs.Common.{◌≡◌, ℕ, suc, ◌+◌, ◌-◌, ◌<◌, ◌≤◌, Bool, true, false, if◌then◌else◌, List, [], ◌∷◌, length, get_or, take, ℤ, refl, ap, sym, ◌∙◌, subst, arith}
use Rattle.std.proofs.lemmas.Bool.{and_parts}
use Rattle.std.proofs.lemmas.List.{get_or-take, length-take-le}
use Rattle.state_rules.specs.Bits.{bit_in}
use Rattle.state_rules.specs.Assignments.{Assignment, assignment}
use Rattle.state_rules.specs.Cases.{agrees_at}
use Rattle.state_rules.specs.Ranking.{cost}
use Rattle.clause_encoder.specs.Clauses.{ClauseList, is_clause_list}
use Rattle.clause_encoder.proofs.OtherVariables.{all_hold-same}
use Rattle.conditioner.specs.Evidence.{known_of}
use Rattle.conditioner.proofs.FittingEvidence.{fits_evidence-at, fits_evidence-from}
use Rattle.clause_search.specs.Searching.{Rules, false_weight, priced, are_within, are_ordered}
use Rattle.clause_search.proofs.Extended.{AreAlike, all_true-same, extension, extension-alike, extension-keeps}
use Rattle.clause_answers.specs.declared.weights.Weights.{Weights}
use Rattle.clause_answers.specs.inner.Known.{Knows}
use Rattle.clause_answers.specs.inner.Asking.{Asked, Fits}
use Rattle.clause_answers.specs.inner.Weighing.{IsReached}
use Rattle.clause_answers.specs.inner.Carrying.{asked, Carried, Cut, IsOracle}
use Rattle.clause_answers.proofs.BitCosts.{cost-take}

-- What an oracle is asked, over the rules of its search.
pub record Ready (s : Asked) (rules : Rules) (costs evidence : List ℕ) (literals : List ℤ) (low high : ℕ) : Type 0 where
  pub view : record s { question = asked rules costs evidence; low = low; high = high } ≡ s
  pub valid : is_clause_list rules.cnf ≡ true
  pub even : length rules.limits ≡ length rules.members
  pub ordered : are_ordered (rules.cnf.vars + 1) rules.members ≡ true
  pub parts : length costs ≤ rules.cnf.vars
  pub known : length evidence ≡ rules.cnf.vars
  pub within : are_within rules.cnf.vars literals ≡ true

pub ready : (s : Asked) (old new : Rules) (costs evidence : List ℕ) (literals : List ℤ) (low high : ℕ) (weights : Weights) (bits : List Bool) (space : ℕ) → IsOracle old costs evidence weights bits space
    → record { question = asked old costs evidence; low = low; high = high; bits = bits } ≡ s → new.cnf ≡ old.cnf → is_clause_list new.cnf ≡ true → length new.limits ≡ length new.members
    → are_ordered (new.cnf.vars + 1) new.members ≡ true → are_within s.question.cnf.vars literals ≡ true → Ready s new costs evidence literals low high
ready s old new costs evidence literals low high weights bits space o v e valid even ordered within =
    let vars : new.cnf.vars ≡ old.cnf.vars = ap (λ (k : ClauseList). k.vars) e in
    record {
      view = (λ i. record { question = record { cnf = e i; costs = costs; evidence = evidence }; low = low; high = high; bits = (sym v i).bits }) ∙ v;
      valid = valid;
      even = even;
      ordered = ordered;
      parts = omega (arith, o.parts);
      known = o.known ∙ sym vars;
      within = subst (λ (k : ClauseList). are_within k.vars literals ≡ true) (ap (λ (x : Asked). x.question.cnf) (sym v) ∙ sym e) within;
    }

-- the costs of the parts as weights
priced-cost : (a : Assignment) (v : ℕ) (costs : List ℕ) (bits : List Bool) → ((i : ℕ) → i < length costs → a (v + i) ≡ get_or bits i false) → length costs ≤ length bits
    → false_weight a (priced v costs) ≡ cost costs bits
priced-cost a v [] bits same h = refl
priced-cost a v (c ∷ costs) [] same h = absurd (omega arith)
priced-cost a v (c ∷ costs) (b ∷ bits) same h =
    let own : a v ≡ b = (let none : v + 0 ≡ v = omega arith in ap a (sym none) ∙ same 0 (omega arith)) in
    let others : false_weight a (priced (v + 1) costs) ≡ cost costs bits = priced-cost a (v + 1) costs bits
    (λ i lt. (let next : (v + 1) + i ≡ v + suc i = omega arith in ap a next ∙ same (suc i) (omega (arith, lt)))) (omega arith) in
    ap (λ (bit : Bool). (if bit then 0 else c) + false_weight a (priced (v + 1) costs)) own ∙ each b others
  where
    each : (bit : Bool) → false_weight a (priced (v + 1) costs) ≡ cost costs bits → (if bit then 0 else c) + false_weight a (priced (v + 1) costs) ≡ cost (c ∷ costs) (bit ∷ bits)
    each true o = grind arith
    each false o = grind arith

pub priced-bits : (a : Assignment) (n : ℕ) (costs : List ℕ) (bits : List Bool) → AreAlike n a (assignment bits) → length costs ≤ n → length costs ≤ length bits
    → false_weight a (priced 1 costs) ≡ cost costs (take (length costs) bits)
priced-bits a n costs bits s h k =
    priced-cost a 1 costs bits (λ i lt. (let same : 1 + i - 1 ≡ i = omega arith in s (1 + i) (omega arith) (omega (arith, lt, h)) ∙ ap (bit_in bits) same)) k ∙ sym (cost-take costs bits)

-- the first bits
alike-take : (n : ℕ) (bits : List Bool) → AreAlike n (assignment (take n bits)) (assignment bits)
alike-take n bits v f h = get_or-take n bits (v - 1) false (omega (arith, f, h))

knows-alike : (n : ℕ) (a b : Assignment) (evidence : List ℕ) → AreAlike n a b → length evidence ≡ n → Knows b evidence (length evidence) → Knows a evidence (length evidence)
knows-alike n a b evidence s h k i lt = subst (λ (bit : Bool). agrees_at (known_of (get_or evidence i 0)) bit ≡ true) (sym (s (i + 1) (omega arith) (omega (arith, lt, h)))) (k i lt)

same-place : (i : ℕ) → i + 1 - 1 ≡ i
same-place i = omega arith

module _ (s : Asked) (rules : Rules) (costs evidence : List ℕ) (literals : List ℤ) (low high : ℕ) (r : Ready s rules costs evidence literals low high) where
  pub carried : (bits : List Bool) → Fits (asked rules costs evidence) bits → Carried rules costs evidence literals bits
  carried bits f =
      let alike = extension-alike rules (assignment bits) in
      record {
        to = extension rules (assignment bits);
        kept = extension-keeps rules (assignment bits) r.valid r.ordered f.holds;
        knows = knows-alike rules.cnf.vars (extension rules (assignment bits)) (assignment bits) evidence alike r.known
            (λ i lt. subst (λ k. agrees_at (known_of (get_or evidence i 0)) (bit_in bits k) ≡ true) (sym (same-place i)) (fits_evidence-at evidence bits (f.long ∙ sym r.known) f.agrees i));
        same = all_true-same rules.cnf.vars (extension rules (assignment bits)) (assignment bits) literals alike r.within;
        costs_ = priced-bits (extension rules (assignment bits)) rules.cnf.vars costs bits alike r.parts (omega (arith, f.long, r.parts));
        alike = alike;
      }

  pub cut : (model bits : List Bool) → IsReached rules evidence literals model → bits ≡ take rules.cnf.vars model → Cut rules costs evidence literals model bits
  cut model bits m is = subst (λ (b : List Bool). Cut rules costs evidence literals model b) (sym is)
      (let first : List Bool = take rules.cnf.vars model in
      let alike = alike-take rules.cnf.vars model in
      let long : length first ≡ rules.cnf.vars = length-take-le rules.cnf.vars model m.long in
      let knows = knows-alike rules.cnf.vars (assignment first) (assignment model) evidence alike r.known m.knows in
      let cheap = priced-bits (assignment model) rules.cnf.vars costs first (λ v g h. sym (alike v g h)) r.parts (omega (arith, long, r.parts)) in
      record {
        fits = record {
          long = long;
          agrees = fits_evidence-from evidence first (λ i lt. subst (λ j. agrees_at (known_of (get_or evidence i 0)) (bit_in first j) ≡ true) (same-place i) (knows i (omega (arith, lt, long, r.known))));
          holds = all_hold-same rules.cnf.vars (assignment first) (assignment model) rules.cnf.clauses (let v = r.valid in grind arith) alike ∙ (and_parts _ _ m.kept).0;
        };
        true_ = all_true-same rules.cnf.vars (assignment first) (assignment model) literals alike r.within ∙ m.true_;
        costs_ = sym cheap ∙ priced-bits (assignment model) rules.cnf.vars costs model (λ v g h. refl) r.parts (omega (arith, m.long, r.parts));
        priced_ = cheap;
      })
