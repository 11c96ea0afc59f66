use Rattle.std.proofs.Common.{◌≡◌, ◌+◌, ◌-◌, true, false, length, sym, subst, arith, ◌∙◌}
use Rattle.std.specs.Prelude.{◌==◌}
use Rattle.state_rules.specs.Bits.{same_bit}
use Rattle.state_rules.specs.Cases.{agrees_at}
use Rattle.minimiser.specs.Costs.{known_at}
use Rattle.level_lister.specs.inner.Pairs.{Tells, group_count, group_in}
use Rattle.level_lister.proofs.TwoWords.{tells_ok}
use Rattle.level_lister.proofs.TestCosts.{allowed_by}
use Rattle.level_lister.proofs.pair_pass.PairPass.literal_pair.Goals as goal

pub returns-then-positive : goal.returns-then-positive
returns-then-positive c =
    let costs = c.args.self.now.levels.now.costs in
    let evidence = c.args.self.now.evidence.now in
    let top = c.args.self.now.levels.now.top in
    let group = group_in evidence (length costs) c.args.self.now.groups in
    let allowed = allowed_by (known_at evidence c.args.var) c.args.positive (λ e. c.in_default.not-False (c.leaf.ensures ∙ e)) in
    subst (λ p. Tells evidence costs top (group_count top) group (λ a. same_bit p (a c.args.var)) (λ v. c.args.var == v) (record { costs = 1; faults = 0 })) (sym c.if-positive.true)
    (tells_ok evidence costs top (group_count top) group c.args.var c.requires.var.0 (subst (λ p. agrees_at (known_at evidence c.args.var) p ≡ true) c.if-positive.true allowed))

pub returns-else-positive : goal.returns-else-positive
returns-else-positive c =
    let costs = c.args.self.now.levels.now.costs in
    let evidence = c.args.self.now.evidence.now in
    let top = c.args.self.now.levels.now.top in
    let group = group_in evidence (length costs) c.args.self.now.groups in
    let place : c.args.var - 1 + 1 ≡ c.args.var = omega (arith, c.requires.var.0) in
    subst (λ p. Tells evidence costs top (group_count top) group (λ a. same_bit p (a c.args.var)) (λ v. c.args.var == v) c.fault_pair.result) (sym c.if-positive.false)
    (subst (λ n. Tells evidence costs top (group_count top) group (λ a. same_bit false (a n)) (λ v. n == v) c.fault_pair.result) place c.fault_pair.ensures)
