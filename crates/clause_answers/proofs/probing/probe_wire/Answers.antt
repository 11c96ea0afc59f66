use Rattle.std.proofs.Common.{◌≡◌, ◌+◌, Some, length, ap, ◌∙◌, inl, inr, ⊎_elim, arith}
use Rattle.std.proofs.Math.ListN.{length-set}
use Rattle.std.proofs.lemmas.Bool.{cases_eq}
use Rattle.std.proofs.lemmas.List.{get_or-set_same, get_or-set_other}
use Rattle.state_rules.specs.Numbers.{cost_in}
use Rattle.clause_answers.specs.inner.Asking.{Fits, cost_of}
use Rattle.clause_answers.proofs.Probes.{number-right, noted-list, noted-other}
use Rattle.clause_answers.proofs.probing.probe_wire.Goals as goal

pub returns-else-eq-clause-right : goal.returns-else-eq-clause-right
returns-else-eq-clause-right c =
    let q = c.args.oracle.now.question in
    ap cost_in (get_or-set_same c.args.list.now c.args.wire c.unwrap_or.result 0 c.requires.wire ∙ c.unwrap_or.ensures)
    ∙ number-right q (length q.costs + c.args.wire) c.args.bit c.least_where-found.new.oracle.bits c.least_where-found.result c.costs-parts.ensures.total
    (grind (arith, c.least_where-found.ensures.least, c.costs-parts.ensures.value)) (λ n e. (c.least_where-found.ensures.found n e).1)

pub returns-then-eq-clause-right : goal.returns-then-eq-clause-right
returns-then-eq-clause-right c =
    let q = c.args.oracle.now.question in
    let n = c.args.least in
    let found : c.least_where-found.result ≡ Some n = grind (arith, c.eq.ensures) in
    let both = c.least_where-found.ensures.found n found in
    let fits : Fits q c.bits.result.now = grind (arith, both.0, c.bits.ensures.value) in
    let cost : cost_of q c.bits.result.now ≡ n = grind (arith, both.1, c.bits.ensures.value) in
    let is = number-right q (length q.costs + c.args.wire) c.args.bit c.least_where-found.new.oracle.bits c.least_where-found.result c.costs-parts.ensures.total
    (grind (arith, c.least_where-found.ensures.least, c.costs-parts.ensures.value)) (λ k e. (c.least_where-found.ensures.found k e).1) in
    ⊎_elim
    (λ s. ap cost_in (s ∙ get_or-set_same c.args.list.now c.args.wire c.unwrap_or.result 0 c.requires.wire ∙ c.unwrap_or.ensures) ∙ is)
    (λ r. r)
    (noted-list q c.bits.result.now n c.costs-parts.ensures.parts c.costs-parts.ensures.total fits cost c.requires.least (length q.costs + c.args.wire) c.args.bit _ _
    (rw c.costs-parts.ensures.value at (c.note.ensures.list c.args.wire (omega (arith, c.requires.wire, length-set c.args.list.now c.args.wire c.unwrap_or.result)))))

pub returns-then-eq-clause-kept : goal.returns-then-eq-clause-kept
returns-then-eq-clause-kept c = λ i lt.
    let q = c.args.oracle.now.question in
    let n = c.args.least in
    let found : c.least_where-found.result ≡ Some n = grind (arith, c.eq.ensures) in
    let both = c.least_where-found.ensures.found n found in
    let fits : Fits q c.bits.result.now = grind (arith, both.0, c.bits.ensures.value) in
    let cost : cost_of q c.bits.result.now ≡ n = grind (arith, both.1, c.bits.ensures.value) in
    ⊎_elim
    (λ (e : i ≡ c.args.wire). inr (rw e (returns-then-eq-clause-right c)))
    (λ ne. ⊎_elim
    (λ s. inl (s ∙ get_or-set_other c.args.list.now c.args.wire i c.unwrap_or.result 0 ne))
    (λ r. inr r)
    (noted-list q c.bits.result.now n c.costs-parts.ensures.parts c.costs-parts.ensures.total fits cost c.requires.least (length q.costs + i) c.args.bit _ _
    (rw c.costs-parts.ensures.value at (c.note.ensures.list i (omega (arith, lt, length-set c.args.list.now c.args.wire c.unwrap_or.result))))))
    (cases_eq i c.args.wire)

pub returns-then-eq-clause-others : goal.returns-then-eq-clause-others
returns-then-eq-clause-others c = λ i lt.
    let q = c.args.oracle.now.question in
    let n = c.args.least in
    let found : c.least_where-found.result ≡ Some n = grind (arith, c.eq.ensures) in
    let both = c.least_where-found.ensures.found n found in
    let fits : Fits q c.bits.result.now = grind (arith, both.0, c.bits.ensures.value) in
    let cost : cost_of q c.bits.result.now ≡ n = grind (arith, both.1, c.bits.ensures.value) in
    noted-other q c.bits.result.now n c.costs-parts.ensures.parts c.costs-parts.ensures.total fits cost c.requires.least (length q.costs + i) c.args.bit _ _
    (rw c.costs-parts.ensures.value at (c.note.ensures.other i (omega (arith, lt, c.requires.other, length-set c.args.list.now c.args.wire c.unwrap_or.result))))
