use Rattle.std.proofs.Common.{◌≡◌, ◌+◌, ◌-◌, true, false, length, get_or, sym, ap, subst, arith}
use Rattle.std.specs.Prelude.{◌==◌}
use Rattle.state_rules.specs.Bits.{same_bit}
use Rattle.state_rules.specs.Cases.{agrees_at}
use Rattle.conditioner.specs.Evidence.{known_of}
use Rattle.minimiser.specs.Costs.{known_at}
use Rattle.level_lister.specs.inner.FaultSets.{in_first, IsFaultSet}
use Rattle.level_lister.proofs.PairNodes.{grouped}
use Rattle.level_lister.proofs.FaultCosts.{fault_one}
use Rattle.level_lister.proofs.fault_pass.FaultPass.put_literal_faults.Goals as goal

pub returns : goal.returns
returns c =
    let evidence = c.args.self.now.evidence.now in
    let costs = c.args.self.now.levels.now.costs in
    let groups = c.args.self.now.groups in
    let place : c.args.var - 1 + 1 ≡ c.args.var = omega (arith, c.requires.var) in
    let marked : in_first evidence costs groups c.args.var ≡ true = subst (λ v. in_first evidence costs groups v ≡ true) place (sym c.if-not-is_marked.ensures.marked) in
    let open_ : get_or evidence (c.args.var - 1) 0 ≡ 0 = (grouped evidence (length costs) groups 0 c.args.var marked).open_ in
    let allowed : agrees_at (known_at evidence c.args.var) false ≡ true = ap (λ w. agrees_at (known_of w) false) open_ in
    let cost : get_or c.costs.result.now (c.args.var - 1) 0 ≡ get_or costs (c.args.var - 1) 0 = ap (λ cs. get_or cs (c.args.var - 1) 0) c.costs.ensures in
    subst (λ b. IsFaultSet evidence costs (in_first evidence costs groups) (λ a. same_bit b (a c.args.var)) (λ v. c.args.var == v) c.put_one.new.set) (sym c.if-positive.false)
    (fault_one evidence costs (in_first evidence costs groups) c.args.var c.requires.var (get_or c.costs.result.now (c.args.var - 1) 0) c.put_one.new.set cost allowed marked (λ n h. c.put_one.ensures n (omega arith)))
