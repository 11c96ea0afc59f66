use Rattle.std.proofs.Common.{◌≡◌, ◌+◌, ◌*◌, ◌<◌, ◌≤◌, true, sym, ◌∙◌, subst, arith, ⊎_elim}
use Rattle.std.proofs.lemmas.Bool.{cases_lt, false≢true}
use Rattle.state_rules.specs.Bits.{has_bit}
use Rattle.level_lister.specs.inner.Pairs.{FaultOf}
use Rattle.level_lister.proofs.PairWhole.{group_whole}
use Rattle.level_lister.proofs.search.Asked.faulty_group_by_pairs.Goals as goal

pub loop-group-preserved : goal.loop-group-preserved
loop-group-preserved c h lt f =
    let pair = c.put_pairs-pair.result in
    let same = c.group_count-count.ensures.count in
    let group = c.loop-group.group in ⊎_elim
    (λ (p : h < group). c.loop-group.invariant h p f)
    (λ (p : group ≤ h). let here : h ≡ group = omega arith in
    false≢true (sym (sym c.has_bit.ensures ∙ c.if-has_bit.false) ∙ subst (λ n. has_bit pair.faults (n * c.args.cost + group) ≡ true) (sym same)
    (group_whole c.args.self.now.graph.now c.args.self.now.skips.now c.args.self.now.evidence.now c.args.self.now.levels.now.costs c.args.self.now.levels.now.top c.args.groups pair c.args.self.now.valid c.args.self.now.long c.args.self.now.for_graph.parts c.put_pairs-pair.ensures c.args.self.now.enough c.args.cost group c.requires.cost (omega (arith, c.loop-group-test.true, same))
    (subst (FaultOf c.args.self.now.graph.now c.args.self.now.evidence.now c.args.self.now.levels.now.costs c.args.cost c.args.groups) here f))))
    (cases_lt h group)

pub returns-clause-before : goal.returns-clause-before
returns-clause-before c h lt f = c.loop-group.invariant h (omega (arith, lt, c.loop-group-test.false)) f
