use Rattle.std.proofs.Common.{◌≡◌, ℕ, ◌+◌, ◌-◌, ◌/◌, ◌≤◌, length, ap, subst, sym, arith}
use Rattle.level_lister.specs.Passes.{first_passes, groups_per_pass}
use Rattle.level_lister.proofs.FaultRanges.{range_start, range_next, IsRange, PassesLeft, left_next, range_small, size_some}
use Rattle.level_lister.proofs.search.Asked.first_faulty.Goals as goal

pub loop-span-init : goal.loop-span-init
loop-span-init g c =
    let costs = c.args.self.now.levels.now.costs in
    let all : length c.costs-parts.result.now ≡ length costs = ap length c.costs-parts.ensures in
    record {
      range = subst (λ (n : ℕ). IsRange c.args.self.now.graph.now c.args.self.now.evidence.now costs c.args.cost c.args.from c.args.from (n - c.args.from + 1)) (sym all) (range_start c.args.self.now.graph.now c.args.self.now.evidence.now costs c.args.cost c.args.from c.requires.from);
      some = omega arith;
      small = omega (arith, all, c.requires.from);
      passes = λ k h. record { rest = k; fits = omega (arith, all, h); few = omega (arith, c.prepare.ensures.steps) };
      ready = c.prepare.ensures.ready;
    }

pub loop-span-preserved : goal.loop-span-preserved
loop-span-preserved g c =
    let top = c.args.self.now.levels.now.top in
    let count = c.groups_per_pass-count.result in
    let span = c.loop-span.span in
    let group = c.faulty_group-group.result in
    let same : c.groups_per_pass-count.result ≡ groups_per_pass top = c.groups_per_pass-count.ensures.count in
    let le : group ≤ count = omega (arith, c.faulty_group-group.ensures.few, same) in
    record {
      range = range_next c.args.self.now.graph.now c.args.self.now.evidence.now c.args.self.now.levels.now.costs c.args.cost c.args.from c.loop-span.low span count group le _
          (λ h. c.faulty_group-group.ensures.found (omega (arith, h, same))) c.faulty_group-group.ensures.before c.loop-span.invariant.range;
      some = size_some span count c.loop-span.invariant.some;
      small = omega (arith, range_small c.loop-span.low span count group le c.groups_per_pass-count.ensures.few c.groups_per_pass-count.ensures.some c.loop-span-test.true, c.loop-span.invariant.small);
      passes = λ k h. subst (λ n. PassesLeft (groups_per_pass top) ((span + n) / (n + 1)) c.tick.new.self (c.args.steps.now + first_passes top + k)) (sym same)
          (subst (λ n. PassesLeft (groups_per_pass top) ((span + groups_per_pass top) / (groups_per_pass top + 1)) n (c.args.steps.now + first_passes top + k)) (sym c.tick.ensures) (left_next (groups_per_pass top) span c.loop-span.steps (c.args.steps.now + first_passes top + k) c.loop-span-test.true (c.loop-span.invariant.passes k h)));
      ready = c.faulty_group-group.ensures.ready;
    }
