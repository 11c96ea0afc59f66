use Rattle.std.proofs.Common.{◌≡◌, ◌+◌, ◌*◌, ◌-◌, ◌≤◌, length, get_or, ap, sym, ◌∙◌, arith}
use Rattle.std.specs.Prelude.{◌==◌}
use Rattle.std.proofs.lemmas.List.{get_or_past}
use Rattle.state_rules.proofs.WordBits.{has_bit-zero, one_bit}
use Rattle.level_lister.specs.inner.Pairs.{group_count, group_in}
use Rattle.level_lister.proofs.TwoWords.{tells_faulty}
use Rattle.level_lister.proofs.PairNodes.{none_marked}
use Rattle.level_lister.proofs.pair_pass.PairPass.fault_pair.Goals as goal

pub returns-then-part-costs : goal.returns-then-part-costs
returns-then-part-costs c =
    let costs = c.args.self.now.levels.now.costs in
    let evidence = c.args.self.now.evidence.now in
    let top = c.args.self.now.levels.now.top in
    let past : length costs ≤ c.args.part = omega (arith, c.if-part-costs.true, ap length c.costs-costs.ensures) in
    let none : 0 ≡ get_or costs (c.args.part + 1 - 1) 0 = sym (get_or_past costs (c.args.part + 1 - 1) 0 (omega arith)) in
    tells_faulty evidence costs top (group_count top) (group_in evidence (length costs) c.args.self.now.groups) (c.args.part + 1) (omega arith) 0 1 0 c.args.self.now.few none c.requires.allowed
    (λ n h. one_bit 32 0 n (omega arith))
    (λ n g le lt. has_bit-zero (group_count top * n + g) ∙ none_marked evidence (length costs) c.args.self.now.groups g (c.args.part + 1) (n == 0) (λ is. absurd (omega (arith, is.high, past))))

pub returns : goal.returns
returns c =
    let costs = c.args.self.now.levels.now.costs in
    let evidence = c.args.self.now.evidence.now in
    let top = c.args.self.now.levels.now.top in
    let part = c.args.part in
    let cost = get_or c.costs-costs.result.now part 0 in
    let back : part ≡ part + 1 - 1 = omega arith in
    let is : get_or c.costs-costs.result.now part 0 ≡ get_or costs (part + 1 - 1) 0 = (λ i. get_or (c.costs-costs.ensures i) (back i) 0) in
    tells_faulty evidence costs top (group_count top) (group_in evidence (length costs) c.args.self.now.groups) (part + 1) (omega arith) (get_or c.costs-costs.result.now part 0) c.one.result c.mark.result c.args.self.now.few is c.requires.allowed
    c.one.ensures c.mark.ensures
