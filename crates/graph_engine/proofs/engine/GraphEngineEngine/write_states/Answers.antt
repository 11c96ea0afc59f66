use Rattle.std.proofs.Common.{◌≡◌, ◌∙◌, ℕ, List, length, sym, ap, subst}
use Rattle.diag_edge.specs.Edge.{Puts}
use Rattle.projector.specs.Projecting.{projected_text}
use Rattle.session_rules.specs.GraphSystems.{Subject}
use Rattle.session_rules.proofs.CaseEvidence.{words-of_case}
use Rattle.engines.specs.Offered.{states_text}
use Rattle.graph_engine.specs.Served.{OnGraph, about_of, case_text}
use Rattle.graph_engine.specs.inner.Bases.{AreKnown, case_in}
use Rattle.graph_engine.proofs.engine.GraphEngineEngine.write_states.Goals as goal

-- the words are those of the case
text_is : (subject : Subject) (known : List ℕ) → AreKnown subject known → projected_text subject.graph known (length subject.parts) ≡ case_text subject (case_in subject known)
text_is subject known are =
    sym (ap (λ (words : List ℕ). projected_text subject.graph words (length subject.parts))
    (words-of_case (length subject.parts) (length subject.wires) subject.graph.vars known are))

pub returns-clause-text : goal.returns-clause-text
returns-clause-text g c = λ drawn.
    let e = c.self.inside in
    let known = e.memory.known.items in
    let words : projected_text c.graph.result.now c.deref.result.now (length c.parts.result.now) ≡ projected_text e.basis.graph known (length e.basis.parts)
    = (λ i. projected_text (c.graph.ensures.graph i) (c.deref.ensures.value i) (length (c.parts.ensures.names i))) in
    subst (λ (text : List ℕ). Puts (g.O.Sink.got c.args.out.now) (g.O.Sink.got c.write_projected.new.out) c.write_projected.result text)
    (words ∙ (text_is e.basis known c.self.invariant.evidence ∙ ap (λ (d : OnGraph). states_text (about_of d).system (about_of d).known) c.self.view_is))
    c.write_projected.ensures.bytes
