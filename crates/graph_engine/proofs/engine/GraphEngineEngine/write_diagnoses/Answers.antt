use Rattle.std.proofs.Common.{◌≡◌, ◌∙◌, ℕ, List, length, sym, ap, subst}
use Rattle.diag_edge.specs.Edge.{Puts}
use Rattle.smooth_nnf.specs.Layouts.{least_text}
use Rattle.session_rules.specs.GraphSystems.{Subject}
use Rattle.session_rules.proofs.CaseEvidence.{words-of_case}
use Rattle.engines.specs.Offered.{diagnoses_text}
use Rattle.graph_engine.specs.Served.{OnGraph, about_of, least_case_text}
use Rattle.graph_engine.specs.inner.Bases.{AreKnown, case_in}
use Rattle.graph_engine.proofs.engine.GraphEngineEngine.write_diagnoses.Goals as goal

-- the words are those of the case
text_is : (subject : Subject) (known : List ℕ) → AreKnown subject known → least_text subject.graph known subject.costs ≡ least_case_text subject (case_in subject known)
text_is subject known are =
    ap (λ (words : List ℕ). least_text subject.graph words subject.costs)
    (sym (words-of_case (length subject.parts) (length subject.wires) subject.graph.vars known are))

pub returns-clause-text : goal.returns-clause-text
returns-clause-text g c = λ told.
    subst (λ (text : List ℕ). Puts (g.O.Sink.got c.args.out.now) (g.O.Sink.got c.write_least_with.new.out) c.write_least_with.result text)
    ((λ i. least_text (c.graph.ensures.graph i) (c.deref.ensures.value i) (c.costs.ensures i))
    ∙ (text_is c.self.inside.basis c.self.inside.memory.known.items c.self.invariant.evidence
    ∙ ap (λ (d : OnGraph). diagnoses_text (about_of d).system (about_of d).known) c.self.view_is))
    c.write_least_with.ensures.bytes
