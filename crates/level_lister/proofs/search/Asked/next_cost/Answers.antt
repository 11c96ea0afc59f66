use Rattle.std.proofs.Common.{◌≡◌, ◌<◌, ◌≤◌, sym, ◌∙◌, subst, arith, ⊎_elim}
use Rattle.std.proofs.lemmas.Bool.{cases_lt, false≢true}
use Rattle.level_lister.specs.inner.Searching.{HasCost}
use Rattle.level_lister.proofs.search.Asked.next_cost.Goals as goal

pub returns-then-has_number-clause-next : goal.returns-then-has_number-clause-next
returns-then-has_number-clause-next g c =
    let le : c.loop-cost.cost ≤ c.args.self.now.levels.now.top = omega (arith, c.loop-cost.invariant.end) in
    (omega arith, le, (c.put_costs.ensures c.loop-cost.cost le).0 (sym c.has_number.ensures ∙ c.if-has_number.true), c.loop-cost.invariant.none)

pub loop-cost-preserved : goal.loop-cost-preserved
loop-cost-preserved g c = record {
  none = λ d low lt has. ⊎_elim
      (λ (p : d < c.loop-cost.cost). c.loop-cost.invariant.none d low p has)
      (λ (p : c.loop-cost.cost ≤ d). let same : d ≡ c.loop-cost.cost = omega arith in
      absurd (false≢true (sym (sym c.has_number.ensures ∙ c.if-has_number.false)
      ∙ (c.put_costs.ensures c.loop-cost.cost (omega (arith, c.loop-cost.invariant.end))).1 (subst (HasCost c.args.self.now.graph.now c.args.self.now.evidence.now c.args.self.now.levels.now.costs) same has))))
      (cases_lt d c.loop-cost.cost);
  end = c.loop-cost.invariant.end;
}
