use Rattle.std.proofs.Common.{◌∙◌, Some, get_or, ap}
use Rattle.state_rules.specs.Ranking.{rest}
use Rattle.conditioner.specs.Evidence.{bits_of}
use Rattle.diagnosis_lister.specs.Listing.{step_of}
use Rattle.engines.specs.declared.listed.Listed.TheVariants.{Diagnoses}
use Rattle.engines.specs.Answers.{diagnoses_of, next_after}
use Rattle.graph_engine.specs.Served.{OnGraph, served_system, about_of}
use Rattle.graph_engine.specs.inner.Bases.{case_in}
use Rattle.graph_engine.specs.inner.Held.{of_step}
use Rattle.graph_engine.proofs.Asked.{states-asked, diagnoses-asked}
use Rattle.graph_engine.proofs.NextStates.{is_first, diagnosis_next}
use Rattle.graph_engine.proofs.engine.GraphEngine.go_on.Goals as goal

pub returns-clause-next : goal.returns-clause-next
returns-clause-next g c =
    let e = c.self.inside in
    let old = Some (bits_of c.args.old.now) in
    let states = states-asked e.basis e.memory.known.items c.graph.ensures.basis c.self.invariant.evidence _ _ _ c.graph.ensures.graph c.deref_mut.ensures.value c.costs.ensures in
    let list = diagnoses-asked e.basis e.memory.known.items c.graph.ensures.basis c.self.invariant.evidence _ _ _ c.graph.ensures.graph c.deref_mut.ensures.value c.costs.ensures in
    c.next_of_step.ensures
    ∙ (ap of_step (c.next.ensures.step ∙ (λ i. step_of (states i) (rest (list i) (Some (bits_of (c.copy_from_slice.ensures.after i))))))
    ∙ (diagnosis_next (served_system e.basis) e.basis.costs ((served_system e.basis).consistent (case_in e.basis e.memory.known.items)) _
    ∙ ap (λ (d : OnGraph). next_after (about_of d).system Diagnoses (about_of d).known old) c.self.view_is))

pub returns-clause-state : goal.returns-clause-state
returns-clause-state g c =
    let old = bits_of c.args.old.now in
    let list = diagnoses-asked c.self.inside.basis c.self.inside.memory.known.items c.graph.ensures.basis c.self.invariant.evidence _ _ _ c.graph.ensures.graph c.deref_mut.ensures.value c.costs.ensures in
    is_first _ old _ (c.next.ensures.next
    ∙ ((λ i. get_or (rest (list i) (Some (bits_of (c.copy_from_slice.ensures.after i)))) 0 (bits_of (c.copy_from_slice.ensures.after i)))
    ∙ ap (λ (d : OnGraph). get_or (rest (diagnoses_of (about_of d)) (Some old)) 0 old) c.self.view_is))
