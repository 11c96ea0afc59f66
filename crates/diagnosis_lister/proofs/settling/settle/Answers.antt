use Rattle.std.proofs.Common.{◌∙◌, subst, sym, IsSome, ◌<◌, length, refl, arith, lit<}
use Rattle.std.proofs.lemmas.List.Elements.{All-set}
use Rattle.diagnosis_lister.proofs.Faults.{faults-kept, faults-added}
use Rattle.diagnosis_lister.proofs.Settled.{settled-start, settled-found, settled-end}
use Rattle.diagnosis_lister.proofs.settling.settle.Goals as goal

pub loop-part-init : goal.loop-part-init
loop-part-init g c = grind (arith, settled-start)

pub loop-part-preserved : goal.loop-part-preserved
loop-part-preserved g c =
    let u = c.in-Some.ensures.0 in record {
      small = All-set (λ w. w < 3) _ c.in-Some.part 2 (lit< tt) c.fix_ok.ensures.evidence;
      settled = settled-found c.args.graph.now c.args.costs.now c.args.evidence.now c.requires.parts c.requires.long c.loop-part.evidence c.loop-part.from c.loop-part.invariant.settled
          c.fix_ok.new.evidence c.in-Some.part (record { long = c.fix_ok.auto.evidence; fixed = c.fix_ok.ensures.fixed; kept = c.fix_ok.ensures.kept; before = c.fix_ok.ensures.before; behind = c.fix_ok.ensures.behind }) u c.in-Some.ensures.1;
      values = c.put_least_costs.ensures.values;
      steps = omega (arith, c.put_least_costs.ensures.steps, c.loop-part.invariant.steps, faults-kept (length c.args.costs.now) c.loop-part.evidence c.fix_ok.new.evidence c.fix_ok.auto.evidence (λ k two. c.fix_ok.ensures.kept k (λ e. absurd (omega arith)) ∙ two), faults-added (length c.args.costs.now) c.fix_ok.new.evidence c.in-Some.part u.within (omega arith) (c.fix_ok.ensures.behind c.in-Some.part (omega arith) ∙ u.open_));
      within = omega arith;
    }

pub returns-clause-first : goal.returns-clause-first
returns-clause-first g c = settled-end c.args.graph.now c.args.costs.now c.args.evidence.now c.requires.parts c.requires.long c.loop-part.evidence c.loop-part.from c.loop-part.invariant.settled
    c.fix_ok-2.new.evidence (length c.args.costs.now) (record { long = c.fix_ok-2.auto.evidence; fixed = c.fix_ok-2.ensures.fixed; kept = c.fix_ok-2.ensures.kept; before = c.fix_ok-2.ensures.before; behind = c.fix_ok-2.ensures.behind }) refl c.in_default.ensures c.fix_ok-2.ensures.evidence

pub returns-clause-steps : goal.returns-clause-steps
returns-clause-steps g c = omega (arith, c.loop-part.invariant.steps, faults-kept (length c.args.costs.now) c.loop-part.evidence c.fix_ok-2.new.evidence c.fix_ok-2.auto.evidence (λ k two. c.fix_ok-2.ensures.kept k (λ e. absurd (omega arith)) ∙ two))

pub first_suspect-requires-clause-some : goal.first_suspect-requires-clause-some
first_suspect-requires-clause-some g c = subst IsSome (sym c.loop-part.invariant.settled.now) refl

pub loop-part-smaller : goal.loop-part-smaller
loop-part-smaller g c = let front = c.loop-part.invariant.settled.settles.front c.in-Some.part in let u = c.in-Some.ensures.0 in grind arith

pub returns-clause-kept : goal.returns-clause-kept
returns-clause-kept g c = grind arith

pub returns-clause-others : goal.returns-clause-others
returns-clause-others g c = grind arith
