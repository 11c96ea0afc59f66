use Rattle.std.proofs.Common.{sym, ◌≡◌, ◌+◌, ◌-◌, true, false, length, get_or, ◌∙◌, ap, arith}
use Rattle.std.proofs.lemmas.Grind.{common_steps}
use Rattle.state_rules.specs.Numbers.{cost_in}
use Rattle.probe_report.proofs.Probed.{held-is, with-none, settled-is, exits-lowered}
use Rattle.probe_report.proofs.probing.probe_wires.Goals as goal

pub overflow_sub-held : goal.overflow_sub-held
overflow_sub-held g c = let held = held-is _ _ _ _ _ (c.len.result - 1) c.len.ensures.valid c.requires.long (omega arith) c.requires.total c.least.ensures.values c.in_ok-fewest.ensures.least (omega (arith, c.len.ensures.len)) in held.low

pub settle-requires-clause-held : goal.settle-requires-clause-held
settle-requires-clause-held g c = let held = held-is _ _ _ _ _ (c.len.result - 1) c.len.ensures.valid c.requires.long (omega arith) c.requires.total c.least.ensures.values c.in_ok-fewest.ensures.least (omega (arith, c.len.ensures.len)) in held.small

pub settle-requires-2-clause-held : goal.settle-requires-2-clause-held
settle-requires-2-clause-held g c = let held = held-is _ _ _ _ _ (c.len.result - 1) c.len.ensures.valid c.requires.long (omega arith) c.requires.total c.least.ensures.values c.in_ok-fewest.ensures.least (omega (arith, c.len.ensures.len)) in held.small

pub returns-clause-zeros : goal.returns-clause-zeros
returns-clause-zeros g c wire h =
    let held = held-is _ _ _ _ _ (c.len.result - 1) c.len.ensures.valid c.requires.long (omega arith) c.requires.total c.least.ensures.values c.in_ok-fewest.ensures.least (omega (arith, c.len.ensures.len)) in
    let none : get_or c.fill.new.self wire 0 ≡ 4294967295 = grind (arith, common_steps) in
    ap cost_in (c.settle.ensures wire (omega arith))
    ∙ settled-is c.args.graph.now c.args.evidence.now c.args.costs.now c.len.ensures.valid c.requires.long c.requires.total c.least.new.values c.put_outside_costs.new.outside c.least.ensures.values c.put_outside_costs.ensures wire (omega arith) false
    c.in_ok-fewest.fewest _ _ (c.requires.evidence (length c.args.costs.now + wire) 0 (omega arith)) c.in_ok-fewest.ensures.least held.fits held.is held.small
    (λ q. exits-lowered _ _ _ _ _ _ _ _ none (c.lower_without.ensures.lowered wire (omega arith) q) (c.lower_with.ensures wire (omega arith)))

pub returns-clause-ones : goal.returns-clause-ones
returns-clause-ones g c wire h =
    let held = held-is _ _ _ _ _ (c.len.result - 1) c.len.ensures.valid c.requires.long (omega arith) c.requires.total c.least.ensures.values c.in_ok-fewest.ensures.least (omega (arith, c.len.ensures.len)) in
    let none : get_or c.fill.new.self wire 0 ≡ 4294967295 = grind (arith, common_steps) in
    ap cost_in (c.settle-2.ensures wire (omega arith))
    ∙ settled-is c.args.graph.now c.args.evidence.now c.args.costs.now c.len.ensures.valid c.requires.long c.requires.total c.least.new.values c.put_outside_costs.new.outside c.least.ensures.values c.put_outside_costs.ensures wire (omega arith) true
    c.in_ok-fewest.fewest _ _ (c.requires.evidence (length c.args.costs.now + wire) 0 (omega arith)) c.in_ok-fewest.ensures.least held.fits held.is held.small
    (λ q. exits-lowered _ _ _ _ _ _ _ _ none (c.lower_without.ensures.lowered wire (omega arith) q) (rw c.copy_from_slice.ensures.after at (c.lower_with-2.ensures wire (omega arith))))

pub returns-in_err-fewest-clause-zeros : goal.returns-in_err-fewest-clause-zeros
returns-in_err-fewest-clause-zeros g c wire h =
    let none : get_or c.fill.new.self wire 0 ≡ 4294967295 = grind (arith, common_steps) in
    ap cost_in none ∙ with-none c.args.graph.now c.args.evidence.now c.args.costs.now (length c.args.costs.now + wire + 1) false (sym c.in_err-fewest.ensures.least)

pub returns-in_err-fewest-clause-ones : goal.returns-in_err-fewest-clause-ones
returns-in_err-fewest-clause-ones g c wire h =
    let none : get_or c.fill-2.new.self wire 0 ≡ 4294967295 = grind (arith, common_steps) in
    ap cost_in none ∙ with-none c.args.graph.now c.args.evidence.now c.args.costs.now (length c.args.costs.now + wire + 1) true (sym c.in_err-fewest.ensures.least)
