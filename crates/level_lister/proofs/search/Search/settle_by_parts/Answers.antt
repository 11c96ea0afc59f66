use Rattle.std.proofs.Common.{◌≡◌, ◌<◌, length, get_or, set, ap, sym, ◌∙◌, arith, lit<}
use Rattle.std.proofs.Math.ListN.{length-set}
use Rattle.std.proofs.lemmas.Bool.{false≢true, eqb-true, eqb-false}
use Rattle.std.proofs.lemmas.List.{set-set}
use Rattle.std.proofs.lemmas.List.Elements.{All-set}
use Rattle.diagnosis_lister.proofs.Allowing.{Refines-more, Refines-set}
use Rattle.diagnosis_lister.proofs.FixedParts.{settles-faulty, settles-end}
use Rattle.level_lister.proofs.StatesOfOneCost.{allows-cost}
use Rattle.level_lister.proofs.ByParts.{settles-held, settles-one_ok}
use Rattle.level_lister.proofs.Skips.{enough_more}
use Rattle.level_lister.proofs.search.Search.settle_by_parts.Goals as goal
use Rattle.level_lister.proofs.search.Search.settle_by_parts.Goals.{then-is_open+then-not-reaches, then-is_open+else-not-reaches, else-is_open}

pub invariant_of-asked-clause-long : goal.invariant_of-asked-clause-long
invariant_of-asked-clause-long g c = length-set c.loop-part.evidence c.loop-part.part 2 ∙ c.loop-part.auto.evidence ∙ c.requires.asked.long

pub invariant_of-asked-clause-small : goal.invariant_of-asked-clause-small
invariant_of-asked-clause-small g c = All-set (λ w. w < 3) c.loop-part.evidence c.loop-part.part 2 (lit< tt) c.loop-part.invariant.small

pub invariant_of-asked-clause-enough : goal.invariant_of-asked-clause-enough
invariant_of-asked-clause-enough g c =
    let costs = c.args.self.now.levels.now.costs in
    let evidence = c.loop-part.evidence in
    let lt : c.loop-part.part < length costs = omega (arith, ap length c.costs-part-end.ensures) in
    let free : get_or evidence c.loop-part.part 0 ≡ 0 = eqb-true _ 0 (sym c.is_open.ensures ∙ c.if-is_open.true) in
    enough_more c.args.self.now.graph.now c.args.self.now.skips.now costs c.args.self.now.levels.now.top c.args.evidence.now (set evidence c.loop-part.part 2)
    (Refines-more (length costs) c.args.evidence.now evidence (set evidence c.loop-part.part 2) c.loop-part.invariant.settles.refines (Refines-set (length costs) evidence c.loop-part.part 2 lt free)).kept c.requires.asked.enough

pub loop-part-preserved : goal.loop-part-preserved
loop-part-preserved g c =
    let costs = c.args.self.now.levels.now.costs in
    let allows = allows-cost c.args.self.now.graph.now costs c.args.cost c.args.self.now.for_graph.parts in
    let small = c.loop-part.invariant.small in
    let lt : c.loop-part.part < length costs = omega (arith, ap length c.costs-part-end.ensures) in
    let long = c.requires.asked.long in
    let so = c.loop-part.invariant.settles in
    elim c.if-is_open.branch [
      | then-is_open+then-not-reaches w ↦
          let free : get_or c.loop-part.evidence c.loop-part.part 0 ≡ 0 = eqb-true _ 0 (sym c.is_open.ensures ∙ w.if-is_open.true) in
          let is : c.if-is_open.evidence ≡ set c.loop-part.evidence c.loop-part.part 1 = w.evidence-is ∙ set-set c.loop-part.evidence c.loop-part.part 2 1 in record {
            small = rw is (All-set (λ n. n < 3) c.loop-part.evidence c.loop-part.part 1 (lit< tt) small);
            settles = rw is (settles-one_ok allows c.args.evidence.now long c.loop-part.evidence c.loop-part.part lt so free (λ has. false≢true (sym w.if-not-reaches.true ∙ w.reaches.ensures.reached.1 has)));
          }
      | then-is_open+else-not-reaches w ↦
          let free : get_or c.loop-part.evidence c.loop-part.part 0 ≡ 0 = eqb-true _ 0 (sym c.is_open.ensures ∙ w.if-is_open.true) in record {
            small = rw w.evidence-is (All-set (λ n. n < 3) c.loop-part.evidence c.loop-part.part 2 (lit< tt) small);
            settles = rw w.evidence-is (settles-faulty allows c.args.evidence.now long c.loop-part.evidence c.loop-part.part so lt free (w.reaches.ensures.reached.0 w.if-not-reaches.false));
          }
      | else-is_open w ↦ record {
        small = rw w.evidence-is small;
        settles = rw w.evidence-is (settles-held allows c.args.evidence.now long c.loop-part.evidence c.loop-part.part lt so (λ e. eqb-false _ 0 (sym c.is_open.ensures ∙ w.if-is_open.false) e));
      }
    ]

pub returns-clause-first : goal.returns-clause-first
returns-clause-first g c =
    let costs = c.args.self.now.levels.now.costs in
    let all : c.loop-part.part ≡ length costs = omega (arith, ap length c.costs-part-end.ensures) in
    settles-end (allows-cost c.args.self.now.graph.now costs c.args.cost c.args.self.now.for_graph.parts) c.args.evidence.now c.requires.asked.long c.loop-part.evidence c.loop-part.part c.loop-part.invariant.settles all (λ k h. c.loop-part.invariant.small k 0 h)
