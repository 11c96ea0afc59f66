use Rattle.diagnosis_lister.proofs.Faults.{faults-few}
use Rattle.std.proofs.lemmas.Grind.{elements, same_number_lists}
use Rattle.std.proofs.Common.{arith, sym, ◌≡◌, ◌≤◌, Bool, true, List, length, Some, ℕ, subst, refl, ◌∙◌}
use Rattle.conditioner.specs.Evidence.{bits_of}
use Rattle.diagnosis_lister.specs.inner.Fixing.{IsFirst, Leaves}
use Rattle.diagnosis_lister.specs.inner.OpenMarks.{marked_bits}
use Rattle.diagnosis_lister.proofs.OpenMarks.{length-bits, length-marked}
use Rattle.diagnosis_lister.proofs.FirstAndNext.{none-next, no-next, step-end, step-found, next-diagnosis, first-passes}
use Rattle.diagnosis_lister.proofs.Allowing.{allows-within}
use Rattle.diagnosis_lister.proofs.Points.{leaves-first}
use Rattle.state_rules.specs.Graphs.{Graph}
use Rattle.state_rules.specs.Ranking.{is_before}
use Rattle.conditioner.specs.Models.{least_under}
use Rattle.minimiser.specs.LeastStates.{ModelWithin, LeastState}
use Rattle.diagnosis_lister.proofs.listing.next_in.Goals as goal

pub returns-in_default-clause-next : goal.returns-in_default-clause-next
returns-in_default-clause-next g c = grind (arith, none-next c.args.graph.now c.args.evidence.now c.args.costs.now (bits_of c.args.state.now) (bits_of c.args.state.now))

pub returns-in-None-clause-step : goal.returns-in-None-clause-step
returns-in-None-clause-step g c = step-end _ _ _ _ (sym c.in-Some.ensures.least) _ (rw c.mark.ensures.bits at c.in-None.ensures.left.1)

pub returns-in-None-clause-next : goal.returns-in-None-clause-next
returns-in-None-clause-next g c =
    let same : c.unmark.new.state ≡ c.args.state.now = grind (arith, same_number_lists) in
    let none = no-next _ _ _ _ (sym c.in-Some.ensures.least) _ (rw c.mark.ensures.bits at c.in-None.ensures.left.1) in
    rw (same, none) refl

-- what the evidence says is the first diagnosis after the state
later-first : (graph : Graph) (costs evidence new : List ℕ) (most part : ℕ) (state marks : List ℕ) (h : List Bool) → length costs ≤ graph.vars → length evidence ≡ graph.vars → length new ≡ length evidence → length state ≡ length costs → marked_bits marks ≡ bits_of state
    → Leaves (λ ws k. ModelWithin graph ws costs most k) evidence (marked_bits marks) new part → least_under graph new costs ≡ Some most → IsFirst (LeastState graph new costs) h → IsFirst (λ k. ModelWithin graph evidence costs most k × (is_before (bits_of state) k ≡ true)) h
later-first graph costs evidence new most part state marks h parts long same room marked l least is =
    leaves-first (allows-within graph costs most parts) evidence (bits_of state) long (length-bits state ∙ room) same
    (subst (λ (p : List Bool). Leaves (λ ws k. ModelWithin graph ws costs most k) evidence p new part) marked l) h (first-passes graph new costs most h least is)

pub returns-in-Some-leave-clause-step : goal.returns-in-Some-leave-clause-step
returns-in-Some-leave-clause-step g c = step-found _ _ _ _ (sym c.in-Some.ensures.least) _ _ (later-first _ _ _ _ _ _ _ _ _ c.requires.parts c.requires.long c.leave.auto.evidence c.requires.state c.mark.ensures.bits c.in-Some-leave.ensures.left c.in-Some-leave.ensures.least c.settle.ensures.first)

pub returns-in-Some-leave-clause-next : goal.returns-in-Some-leave-clause-next
returns-in-Some-leave-clause-next g c =
    let e : length c.mark.new.state ≡ length c.args.costs.now = omega arith in
    rw c.write_back.ensures.bits (rw e (next-diagnosis _ _ _ _ (sym c.in-Some.ensures.least) _ _ _ (later-first _ _ _ _ _ _ _ _ _ c.requires.parts c.requires.long c.leave.auto.evidence c.requires.state c.mark.ensures.bits c.in-Some-leave.ensures.left c.in-Some-leave.ensures.least c.settle.ensures.first)))

pub returns-in-Some-leave-clause-evidence : goal.returns-in-Some-leave-clause-evidence
returns-in-Some-leave-clause-evidence g c = let l = c.in-Some-leave.ensures.left in grind (arith, same_number_lists, length-marked)

pub returns-in-None-clause-state : goal.returns-in-None-clause-state
returns-in-None-clause-state g c = grind (arith, elements)

pub returns-in-None-clause-few_steps : goal.returns-in-None-clause-few_steps
returns-in-None-clause-few_steps g c = grind arith

pub returns-in-None-clause-steps : goal.returns-in-None-clause-steps
returns-in-None-clause-steps g c = grind (arith, faults-few)

pub returns-in-Some-leave-clause-few_steps : goal.returns-in-Some-leave-clause-few_steps
returns-in-Some-leave-clause-few_steps g c = grind arith

pub returns-in-Some-leave-clause-steps : goal.returns-in-Some-leave-clause-steps
returns-in-Some-leave-clause-steps g c = grind (arith, faults-few)
