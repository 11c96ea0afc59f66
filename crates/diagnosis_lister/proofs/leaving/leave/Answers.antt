use Rattle.std.proofs.Common.{◌≡◌, ◌+◌, ◌-◌, ◌<◌, ℕ, length, get_or, set, ◌∙◌, arith}
use Rattle.std.proofs.lemmas.Grind.{same_number_lists}
use Rattle.std.proofs.lemmas.List.{set-set}
use Rattle.std.proofs.lemmas.List.Elements.{All-set}
use Rattle.minimiser.specs.LeastStates.{ModelWithin}
use Rattle.diagnosis_lister.specs.inner.OpenMarks.{marked_bits}
use Rattle.diagnosis_lister.specs.inner.Fixing.{NoneAfter}
use Rattle.diagnosis_lister.proofs.Faults.{faults-at, faults-back, faults-all}
use Rattle.diagnosis_lister.proofs.OpenMarks.{bit_in-marked, length-marked}
use Rattle.diagnosis_lister.proofs.Allowing.{allows-within}
use Rattle.diagnosis_lister.proofs.Points.{follows-back, none-held, none-tried, leaves-tried, tried-refines}
use Rattle.diagnosis_lister.proofs.FirstAndNext.{has-least, least-has}
use Rattle.diagnosis_lister.proofs.leaving.leave.Goals as goal
use Rattle.diagnosis_lister.proofs.leaving.leave.Goals.{then-mark-eq1+then-not-is_false+else-reaches, else-mark-eq1}

pub loop-part-init : goal.loop-part-init
loop-part-init g c = let allows = allows-within c.args.graph.now c.args.costs.now c.args.fewest c.requires.parts in grind (arith, length-marked)

pub returns-clause-left : goal.returns-clause-left
returns-clause-left g c = grind (arith, same_number_lists)

pub returns-then-reaches-clause-left : goal.returns-then-reaches-clause-left
returns-then-reaches-clause-left g c =
    let j : ℕ = c.loop-part.part - 1 in
    let next : c.loop-part.part ≡ j + 1 = omega arith in
    let word : c.if-mark-ge2.word ≡ get_or c.args.evidence.now j 0 = grind arith in
    let allows = allows-within c.args.graph.now c.args.costs.now c.args.fewest c.requires.parts in
    let has = has-least _ _ c.requires.parts _ _ (c.reaches.ensures.reached.0 c.if-reaches.true) in
    leaves-tried allows _ _ c.requires.long (length-marked _ ∙ c.requires.state) (omega (arith, c.requires.state)) (c.loop-part.auto.evidence ∙ c.follow-end.auto.evidence) (rw next at c.loop-part.invariant.back)
    (c.requires.evidence j 0 (omega arith)) (grind arith) (grind (arith, bit_in-marked)) has

pub loop-part-preserved : goal.loop-part-preserved
loop-part-preserved g c =
    let j : ℕ = c.loop-part.part - 1 in
    let next : c.loop-part.part ≡ j + 1 = omega arith in
    let point = marked_bits c.args.state.now in
    let old = c.args.evidence.now in
    let word : c.if-mark-ge2.word ≡ get_or old j 0 = grind arith in
    let allows = allows-within c.args.graph.now c.args.costs.now c.args.fewest c.requires.parts in
    let few : get_or old j 0 < 3 = c.requires.evidence j 0 (omega arith) in
    let bits : length point ≡ length c.args.costs.now = length-marked c.args.state.now ∙ c.requires.state in
    let lt : j < length c.args.costs.now = omega (arith, c.requires.state) in
    let same : length c.loop-part.evidence ≡ length old = c.loop-part.auto.evidence ∙ c.follow-end.auto.evidence in
    let back = rw next at c.loop-part.invariant.back in
    let steps = rw next at c.loop-part.invariant.steps in
    let is : set c.if-mark-eq1.evidence j c.if-mark-ge2.word ≡ set c.loop-part.evidence j c.if-mark-ge2.word = grind (arith, set-set) in
    let small = All-set (λ w. w < 3) c.loop-part.evidence j c.if-mark-ge2.word (omega arith) c.loop-part.invariant.small in
    let least = least-has c.args.graph.now c.args.costs.now c.requires.parts old (set c.loop-part.evidence j 1) c.args.fewest c.requires.long in
    let none : NoneAfter (ModelWithin c.args.graph.now old c.args.costs.now c.args.fewest) point j = elim c.if-mark-eq1.branch [
      | then-mark-eq1+then-not-is_false+else-reaches w ↦
          let refines = tried-refines allows old point c.requires.long bits lt same back few (grind arith) in
          none-tried allows old point c.requires.long bits lt same back few (grind arith) (λ has. let t = least refines c.requires.least has in grind arith)
      | else-mark-eq1 w ↦ none-held allows old point c.requires.long bits lt same back (grind (arith, bit_in-marked))
    ] in
    record { small = rw is small; back = rw is (follows-back allows old point c.requires.long bits lt same back _ word none); steps = grind (arith, faults-at point j (omega arith), faults-back, bit_in-marked); within = omega arith }

pub returns-then-reaches-clause-steps : goal.returns-then-reaches-clause-steps
returns-then-reaches-clause-steps g c =
    let next : c.loop-part.part ≡ (c.loop-part.part - 1) + 1 = omega arith in
    let at = faults-at (marked_bits c.args.state.now) (c.loop-part.part - 1) (grind (arith, length-marked)) (grind (arith, bit_in-marked)) in
    grind (arith, faults-all)

pub returns-clause-steps : goal.returns-clause-steps
returns-clause-steps g c = grind (arith, faults-all)
