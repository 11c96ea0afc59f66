use Rattle.std.proofs.Common.{◌≡◌, ◌+◌, ◌-◌, ◌<◌, ◌≤◌, ℕ, true, drop, length, get_or, set, All, sym, ◌∙◌, ap, subst, arith, inl, inr}
use Rattle.std.specs.Prelude.{◌⊎◌}
use Rattle.std.proofs.Math.ListN.{length-set}
use Rattle.std.proofs.lemmas.Bool.{false≢true, eqb-true, eqb-false}
use Rattle.std.proofs.lemmas.Grind.{same_number_lists}
use Rattle.std.proofs.lemmas.List.{set-set}
use Rattle.std.proofs.lemmas.List.Elements.{All-set}
use Rattle.state_rules.specs.Bits.{bit_in}
use Rattle.conditioner.specs.Evidence.{bits_of}
use Rattle.conditioner.proofs.StateBits.{is_ok, is_faulty, faulty_word, ok_word}
use Rattle.diagnosis_lister.specs.Listing.{fault_count}
use Rattle.diagnosis_lister.specs.inner.Fixing.{Follows}
use Rattle.diagnosis_lister.proofs.Faults.{faults-at, faults-back, faults-all}
use Rattle.diagnosis_lister.proofs.OpenMarks.{length-bits}
use Rattle.diagnosis_lister.proofs.Points.{follows-start, follows-back, none-held, tried-kept, none-tried, leaves-tried}
use Rattle.level_lister.specs.inner.Searching.{OfCost}
use Rattle.level_lister.proofs.StatesOfOneCost.{allows-cost}
use Rattle.level_lister.proofs.Skips.{enough_more}
use Rattle.level_lister.proofs.search.Search.leave.Goals as goal
use Rattle.level_lister.proofs.search.Search.leave.Goals.{then-is_faulty+then-not-is_false+else-reaches, else-is_faulty, else-is_faulty-via-then-is_faulty+else-not-is_false, else-is_faulty-via-else-is_faulty}

pub loop-part-init : goal.loop-part-init
loop-part-init g c = record {
  small = c.follow-end.ensures.evidence;
  back = follows-start (allows-cost c.args.self.now.graph.now c.args.self.now.levels.now.costs c.args.cost c.args.self.now.for_graph.parts) c.args.evidence.now (bits_of c.args.state.now) c.requires.asked.long
      (length-bits c.args.state.now ∙ c.requires.state) (rw (length-bits c.args.state.now) c.follow-end.ensures.follows);
  steps = omega arith;
  within = c.follow-end.ensures.within;
}

pub invariant_of-asked-clause-long : goal.invariant_of-asked-clause-long
invariant_of-asked-clause-long g c = length-set c.loop-part.evidence (c.loop-part.part - 1) 1 ∙ c.loop-part.auto.evidence ∙ c.follow-end.auto.evidence ∙ c.requires.asked.long

pub invariant_of-asked-clause-small : goal.invariant_of-asked-clause-small
invariant_of-asked-clause-small g c = All-set (λ w. w < 3) c.loop-part.evidence (c.loop-part.part - 1) 1 (omega arith) c.loop-part.invariant.small

pub returns-then-reaches-clause-left : goal.returns-then-reaches-clause-left
returns-then-reaches-clause-left g c =
    let graph = c.args.self.now.graph.now in
    let costs = c.args.self.now.levels.now.costs in
    let old = c.args.evidence.now in
    let state = c.args.state.now in
    let evidence = c.loop-part.evidence in
    let j : ℕ = c.loop-part.part - 1 in
    let next : c.loop-part.part ≡ j + 1 = omega arith in
    let lt : j < length state = omega (arith, c.loop-part.invariant.within) in
    let within : j < length costs = omega (arith, c.requires.state) in
    let back : Follows (OfCost graph old costs c.args.cost) old (bits_of state) evidence (j + 1) = subst (λ (n : ℕ). Follows (OfCost graph old costs c.args.cost) old (bits_of state) evidence n) next c.loop-part.invariant.back in
    leaves-tried (allows-cost graph costs c.args.cost c.args.self.now.for_graph.parts) old (bits_of state) c.requires.asked.long (length-bits state ∙ c.requires.state) within (c.loop-part.auto.evidence ∙ c.follow-end.auto.evidence) back
    (c.requires.asked.small j 0 (omega (arith, c.requires.asked.long, c.args.self.now.for_graph.parts))) (λ e. eqb-false _ 2 (sym c.is_false.ensures ∙ c.if-not-is_false.true) (c.requires.saved.same j within ∙ e))
    (is_faulty state j lt (faulty_word (get_or state j 0) c.is_faulty.result c.is_faulty.ensures c.if-is_faulty.true)) (c.reaches.ensures.reached.0 c.if-reaches.true)

pub loop-part-preserved : goal.loop-part-preserved
loop-part-preserved g c =
    let graph = c.args.self.now.graph.now in
    let costs = c.args.self.now.levels.now.costs in
    let old = c.args.evidence.now in
    let state = c.args.state.now in
    let evidence = c.loop-part.evidence in
    let point = bits_of state in
    let allows = allows-cost graph costs c.args.cost c.args.self.now.for_graph.parts in
    let j : ℕ = c.loop-part.part - 1 in
    let own : ℕ = get_or c.args.saved.now j 0 in
    let next : c.loop-part.part ≡ j + 1 = omega arith in
    let lt : j < length state = omega (arith, c.loop-part.invariant.within) in
    let within : j < length costs = omega (arith, c.requires.state) in
    let same : length evidence ≡ length old = c.loop-part.auto.evidence ∙ c.follow-end.auto.evidence in
    let few : get_or old j 0 < 3 = c.requires.asked.small j 0 (omega (arith, c.requires.asked.long, c.args.self.now.for_graph.parts)) in
    let bits : length point ≡ length costs = length-bits state ∙ c.requires.state in
    let word : own ≡ get_or old j 0 = c.requires.saved.same j within in
    let back : Follows (OfCost graph old costs c.args.cost) old point evidence (j + 1) = subst (λ (n : ℕ). Follows (OfCost graph old costs c.args.cost) old point evidence n) next c.loop-part.invariant.back in
    let at : j < length point = omega (arith, bits, within) in
    let steps : c.loop-part.steps ≤ c.args.steps.now + fault_count (drop (j + 1) point) = subst (λ (n : ℕ). c.loop-part.steps ≤ c.args.steps.now + fault_count (drop n point)) next c.loop-part.invariant.steps in
    let small : All (λ w. w < 3) (set evidence j own) = All-set (λ w. w < 3) evidence j own (omega (arith, word, few)) c.loop-part.invariant.small in
    elim c.if-is_faulty.branch [
      | then-is_faulty+then-not-is_false+else-reaches w ↦
          let is : set c.if-is_faulty.evidence j own ≡ set evidence j own = ap (λ ws. set ws j own) w.evidence-is ∙ set-set evidence j 1 own in record {
            small = rw is small;
            back = rw is (follows-back allows old point c.requires.asked.long bits within same back own word
                (none-tried allows old point c.requires.asked.long bits within same back few (λ e. eqb-false _ 2 (sym w.is_false.ensures ∙ w.if-not-is_false.true) (word ∙ e))
                (λ has. false≢true (sym w.if-reaches.false ∙ w.reaches.ensures.reached.1 has))));
            steps = omega (arith, w.steps-is, w.reaches.ensures.steps, steps, faults-at point j at (is_faulty state j lt (faulty_word (get_or state j 0) c.is_faulty.result c.is_faulty.ensures w.if-is_faulty.true)));
            within = omega (arith, c.loop-part.invariant.within);
          }
      | else-is_faulty w ↦
          let is : set c.if-is_faulty.evidence j own ≡ set evidence j own = ap (λ ws. set ws j own) w.evidence-is in
          let cases : (bit_in point j ≡ true) ⊎ (get_or old j 0 ≡ 2) = elim w.else-is_faulty.branch [
            | else-is_faulty-via-then-is_faulty+else-not-is_false v ↦ inr (sym word ∙ eqb-true _ 2 (sym v.is_false.ensures ∙ v.if-not-is_false.false))
            | else-is_faulty-via-else-is_faulty v ↦ inl (is_ok state j lt (ok_word (get_or state j 0) c.is_faulty.result c.is_faulty.ensures v.if-is_faulty.false))
          ] in record {
            small = rw is small;
            back = rw is (follows-back allows old point c.requires.asked.long bits within same back own word (none-held allows old point c.requires.asked.long bits within same back cases));
            steps = omega (arith, w.steps-is, steps, faults-back point j at);
            within = omega (arith, c.loop-part.invariant.within);
          }
    ]

pub returns-clause-left : goal.returns-clause-left
returns-clause-left g c =
    let all : c.loop-part.part ≡ 0 = omega arith in
    let back : Follows (OfCost c.args.self.now.graph.now c.args.evidence.now c.args.self.now.levels.now.costs c.args.cost) c.args.evidence.now (bits_of c.args.state.now) c.loop-part.evidence 0 = rw all at c.loop-part.invariant.back in
    (same_number_lists c.loop-part.evidence c.args.evidence.now (c.loop-part.auto.evidence ∙ c.follow-end.auto.evidence) (λ k h. back.behind k (omega arith)), back.none)

pub returns-then-reaches-clause-steps : goal.returns-then-reaches-clause-steps
returns-then-reaches-clause-steps g c =
    let point = bits_of c.args.state.now in
    let j : ℕ = c.loop-part.part - 1 in
    let next : c.loop-part.part ≡ j + 1 = omega arith in
    let lt : j < length c.args.state.now = omega (arith, c.loop-part.invariant.within) in
    let at : j < length point = omega (arith, length-bits c.args.state.now, lt) in
    let steps : c.loop-part.steps ≤ c.args.steps.now + fault_count (drop (j + 1) point) = subst (λ (n : ℕ). c.loop-part.steps ≤ c.args.steps.now + fault_count (drop n point)) next c.loop-part.invariant.steps in
    omega (arith, steps, c.reaches.ensures.steps, faults-at point j at (is_faulty c.args.state.now j lt (faulty_word (get_or c.args.state.now j 0) c.is_faulty.result c.is_faulty.ensures c.if-is_faulty.true)), faults-all point j)

pub invariant_of-asked-clause-enough : goal.invariant_of-asked-clause-enough
invariant_of-asked-clause-enough g c =
    let graph = c.args.self.now.graph.now in
    let costs = c.args.self.now.levels.now.costs in
    let old = c.args.evidence.now in
    let state = c.args.state.now in
    let evidence = c.loop-part.evidence in
    let j : ℕ = c.loop-part.part - 1 in
    let next : c.loop-part.part ≡ j + 1 = omega arith in
    let within : j < length costs = omega (arith, c.loop-part.invariant.within, c.requires.state) in
    let back : Follows (OfCost graph old costs c.args.cost) old (bits_of state) evidence (j + 1) = subst (λ (n : ℕ). Follows (OfCost graph old costs c.args.cost) old (bits_of state) evidence n) next c.loop-part.invariant.back in
    enough_more graph c.args.self.now.skips.now costs c.args.self.now.levels.now.top old (set evidence j 1)
    (tried-kept (allows-cost graph costs c.args.cost c.args.self.now.for_graph.parts) old (bits_of state) c.requires.asked.long (length-bits state ∙ c.requires.state) within (c.loop-part.auto.evidence ∙ c.follow-end.auto.evidence) back
    (c.requires.asked.small j 0 (omega (arith, c.requires.asked.long, c.args.self.now.for_graph.parts))) (λ e. eqb-false _ 2 (sym c.is_false.ensures ∙ c.if-not-is_false.true) (c.requires.saved.same j within ∙ e)))
    c.requires.asked.enough
