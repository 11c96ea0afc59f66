use Rattle.std.proofs.Common.{◌≡◌, ◌+◌, ◌<◌, ◌≤◌, length, get_or, set, refl, ap, subst, ◌∙◌, arith, lit<}
use Rattle.std.proofs.lemmas.List.Elements.{All-set}
use Rattle.diagnosis_lister.specs.Listing.{fault_count}
use Rattle.diagnosis_lister.specs.inner.Fixing.{fixed_bits}
use Rattle.diagnosis_lister.proofs.Faults.{faults-kept, faults-added}
use Rattle.diagnosis_lister.proofs.FixedParts.{FixesOk, Settles-start, settles-ok, settles-found, settles-end}
use Rattle.scratch_pool.proofs.Counted.{block-below}
use Rattle.level_lister.specs.inner.Pairs.{FaultIn, OkAmong}
use Rattle.level_lister.proofs.StatesOfOneCost.{allows-cost}
use Rattle.level_lister.proofs.search.Search.settle_by_groups.Goals as goal

pub loop-part-init : goal.loop-part-init
loop-part-init g c = record {
  small = c.requires.asked.small;
  settles = Settles-start _ _ _ c.args.from c.requires.begun.front c.requires.begun.some;
  steps = λ search h. omega arith;
  within = c.requires.begun.within;
}

pub loop-part-preserved : goal.loop-part-preserved
loop-part-preserved g c =
    let graph = c.args.self.now.graph.now in
    let costs = c.args.self.now.levels.now.costs in
    let old = c.loop-part.evidence in
    let mid = c.fix_ok.new.evidence in
    let part = c.in-Some.part in
    let from = c.loop-part.from in
    let le : from ≤ part = c.in-Some.ensures.found.0 in
    let u : FaultIn graph old costs c.args.cost part = c.in-Some.ensures.found.1.0 in
    let ok : OkAmong graph old costs c.args.cost from part = c.in-Some.ensures.found.1.1 in
    let open_ : get_or old part 0 ≡ 0 = u.open_ in
    let within : part < length costs = u.within in
    let long : length mid ≡ length old = c.fix_ok.auto.evidence in
    let fixes : FixesOk old mid from part = record { long = c.fix_ok.auto.evidence; fixed = c.fix_ok.ensures.fixed; kept = c.fix_ok.ensures.kept; before = c.fix_ok.ensures.before; behind = c.fix_ok.ensures.behind } in
    let room : length costs ≤ length mid = omega (arith, long, c.loop-part.auto.evidence, c.requires.asked.long, c.args.self.now.for_graph.parts) in
    let still : get_or mid part 0 ≡ 0 = c.fix_ok.ensures.behind part (omega arith) ∙ open_ in
    let kept : fault_count (fixed_bits (length costs) old) ≤ fault_count (fixed_bits (length costs) mid) = faults-kept (length costs) old mid long (λ k two. c.fix_ok.ensures.kept k (λ e. absurd (omega arith)) ∙ two) in
    let added = faults-added (length costs) mid part within room still in
    record {
      small = All-set (λ w. w < 3) mid part 2 (lit< tt) c.fix_ok.ensures.evidence;
      settles = settles-found (allows-cost graph costs c.args.cost c.args.self.now.for_graph.parts) c.args.evidence.now c.requires.asked.long old from c.loop-part.invariant.settles mid part within fixes (λ k l lt free. ok k l lt (omega arith) free) open_ u.state u.is u.faulty;
      steps = λ search h. omega (
        arith,
        c.in-Some.ensures.steps search h,
        c.loop-part.invariant.steps search h,
        block-below (fault_count (fixed_bits (length costs) old)) (fault_count (fixed_bits (length costs) (set mid part 2))) search (omega (arith, kept, added)),
      );
      within = omega arith;
    }

pub returns-clause-first : goal.returns-clause-first
returns-clause-first g c =
    let costs = c.args.self.now.levels.now.costs in
    let old = c.loop-part.evidence in
    let new = c.fix_ok-2.new.evidence in
    let all : length c.costs.result.now ≡ length costs = ap length c.costs.ensures in
    let fixes : FixesOk old new c.loop-part.from (length costs) =
    subst (λ n. FixesOk old new c.loop-part.from n) all (record { long = c.fix_ok-2.auto.evidence; fixed = c.fix_ok-2.ensures.fixed; kept = c.fix_ok-2.ensures.kept; before = c.fix_ok-2.ensures.before; behind = c.fix_ok-2.ensures.behind }) in
    let allows = allows-cost c.args.self.now.graph.now costs c.args.cost c.args.self.now.for_graph.parts in
    settles-end allows c.args.evidence.now c.requires.asked.long new (length costs)
    (settles-ok allows c.args.evidence.now c.requires.asked.long old c.loop-part.from c.loop-part.invariant.settles new (length costs) (omega arith) fixes (λ k l lt free. c.in_default.ensures.found k l lt lt free)) refl (λ k h. c.fix_ok-2.ensures.evidence k 0 h)

pub returns-clause-steps : goal.returns-clause-steps
returns-clause-steps g c search h =
    let costs = c.args.self.now.levels.now.costs in
    let old = c.loop-part.evidence in
    let new = c.fix_ok-2.new.evidence in
    let kept : fault_count (fixed_bits (length costs) old) ≤ fault_count (fixed_bits (length costs) new) = faults-kept (length costs) old new c.fix_ok-2.auto.evidence (λ k two. c.fix_ok-2.ensures.kept k (λ e. absurd (omega arith)) ∙ two) in
    omega (
      arith,
      c.in_default.ensures.steps search h,
      c.loop-part.invariant.steps search h,
      block-below (fault_count (fixed_bits (length costs) old)) (fault_count (fixed_bits (length costs) new) + 1) search (omega (arith, kept)),
    )
