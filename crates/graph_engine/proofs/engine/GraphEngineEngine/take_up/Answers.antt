use Rattle.std.proofs.Common.{◌≡◌, ◌∙◌, ◌++◌, ◌+◌, ℕ, List, length, take, drop, ap, sym, subst, arith}
use Rattle.state_rules.specs.Cases.{Case}
use Rattle.state_rules.specs.Systems.{System}
use Rattle.session_rules.specs.GraphSystems.{Subject}
use Rattle.session_rules.specs.CaseEvidence.{case_of_evidence, IsEvidence}
use Rattle.engines.specs.Answers.{About}
use Rattle.engines.specs.Offered.{IsEvidenceOf}
use Rattle.graph_engine.specs.Served.{OnGraph, about_of, served_system}
use Rattle.graph_engine.specs.inner.Bases.{AreKnown}
use Rattle.engines.proofs.TakenUp.{taken-are, says-case}
use Rattle.graph_engine.proofs.Written.{written_back}
use Rattle.graph_engine.proofs.engine.GraphEngineEngine.take_up.Goals as goal

abbrev about_with : System → Case → About
about_with system known = record { system = system; known = known }

-- the evidence is that of a case of the basis
fits : (basis : Subject) (known : List ℕ) (now : OnGraph) (evidence : List ℕ) → record { subject = basis; known = known } ≡ now → IsEvidenceOf (about_of now).system evidence
    → IsEvidence (length basis.parts) (length basis.wires) (length basis.parts + length basis.wires) evidence
fits basis known now evidence is = subst (λ (e : OnGraph). IsEvidenceOf (about_of e).system evidence) (sym is)

pub put_front-requires : goal.put_front-requires
put_front-requires c =
    let basis = c.self.inside.basis in
    let is = fits basis c.self.inside.memory.known.items c.args.self.now c.args.evidence.now c.self.view_is c.requires in
    omega (arith, is.long, c.parts-parts.ensures.basis.vars, c.self.invariant.evidence.long, ap length c.deref_mut.ensures.value)

-- the words once those of the evidence were written
written : (len : ℕ) (new evidence lent items : List ℕ) (count : ℕ) → len ≡ length new → new ≡ evidence ++ drop (length evidence) lent → lent ≡ items → length evidence ≡ count
    → take len (new ++ drop (length new) items) ≡ evidence ++ drop count items
written len new evidence lent items count long is same counted =
    written_back len new items long ∙ (is ∙ (λ i. evidence ++ drop (counted i) (same i)))

pub invariant_of-self : goal.invariant_of-self
invariant_of-self c =
    let basis = c.self.inside.basis in
    let items = c.self.inside.memory.known.items in
    let evidence = c.args.evidence.now in
    let is = fits basis items c.args.self.now evidence c.self.view_is c.requires in
    let known = written c.self.inside.memory.known.len c.put_front.new.words evidence c.deref_mut.result.now items (length basis.parts + length basis.wires) (sym (c.put_front.auto.words ∙ c.deref_mut.ensures.len)) c.put_front.ensures c.deref_mut.ensures.value is.long in
    record {
      evidence = subst (AreKnown basis) (sym known) (taken-are (length basis.parts) (length basis.wires) basis.graph.vars items c.self.invariant.evidence evidence is);
      one_a_part = c.self.invariant.one_a_part;
      one_a_node = c.self.invariant.one_a_node;
      enough = c.self.invariant.enough;
      unused = c.self.invariant.unused;
      serves = c.self.invariant.serves;
    }

pub returns : goal.returns
returns c =
    let basis = c.self.inside.basis in
    let items = c.self.inside.memory.known.items in
    let evidence = c.args.evidence.now in
    let is = fits basis items c.args.self.now evidence c.self.view_is c.requires in
    let known = written c.self.inside.memory.known.len c.put_front.new.words evidence c.deref_mut.result.now items (length basis.parts + length basis.wires) (sym (c.put_front.auto.words ∙ c.deref_mut.ensures.len)) c.put_front.ensures c.deref_mut.ensures.value is.long in
    let case = says-case (length basis.parts) (length basis.wires) basis.graph.vars items c.self.invariant.evidence evidence is in
    ap (λ (words : List ℕ). about_of (record { subject = basis; known = words })) known
    ∙ (ap (λ (k : Case). about_with (served_system basis) k) case
    ∙ ap (λ (e : OnGraph). about_with (served_system e.subject) (case_of_evidence (length e.subject.parts) (length e.subject.wires) evidence)) c.self.view_is)
