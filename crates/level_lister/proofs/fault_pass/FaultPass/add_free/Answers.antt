use Rattle.std.proofs.Common.{◌≡◌, ℕ, ◌+◌, ◌*◌, ◌<◌, true, not, ◌&&◌, ◌||◌, length, get_or, sym, ◌∙◌, ap, subst, arith}
use Rattle.std.specs.Prelude.{◌==◌}
use Rattle.part_sets.specs.Numbers.{has_number}
use Rattle.level_lister.specs.inner.CostSets.{has_shifted}
use Rattle.level_lister.specs.inner.FaultSets.{in_first, AreBothSets}
use Rattle.level_lister.proofs.FaultCosts.{free_unmarked, free_marked}
use Rattle.level_lister.proofs.FaultNodes.{first_open}
use Rattle.level_lister.proofs.fault_pass.FaultPass.add_free.Goals as goal
use Rattle.level_lister.proofs.fault_pass.FaultPass.add_free.Goals.{then-is_marked, else-is_marked}

pub returns : goal.returns
returns c test some out is =
    let evidence = c.args.self.now.evidence.now in
    let costs = c.args.self.now.levels.now.costs in
    let groups = c.args.self.now.groups in
    let group = in_first evidence costs groups in
    let faults = c.args.faults.now in
    let mid = c.add_part.new.set in
    let new_all = c.add_part-2.new.set in
    let word = get_or evidence c.args.part 0 in
    let cost : get_or c.costs.result.now c.args.part 0 ≡ get_or costs c.args.part 0 = ap (λ cs. get_or cs c.args.part 0) c.costs.ensures in
    let small : get_or evidence c.args.part 0 < 3 = c.args.self.now.small c.args.part 0 (omega (arith, c.requires.part, c.args.self.now.for_graph.parts, c.args.self.now.long)) in
    let made_faults : (n : ℕ) → n < 32 * length mid → has_number mid n ≡ ((not (word == 2) && has_number faults n) || (not (word == 1) && has_shifted faults (get_or costs c.args.part 0) n)) =
    λ n h. c.add_part.ensures n (omega arith) ∙ ap (λ m. (not (word == 2) && has_number faults n) || (not (word == 1) && has_shifted faults m n)) cost in
    let made : (n : ℕ) → n < 32 * length new_all → has_number new_all n ≡ ((not (word == 2) && has_number c.args.all.now n) || (not (word == 1) && has_shifted c.args.all.now (get_or costs c.args.part 0) n)) =
    λ n h. c.add_part-2.ensures n (omega arith) ∙ ap (λ m. (not (word == 2) && has_number c.args.all.now n) || (not (word == 1) && has_shifted c.args.all.now m n)) cost in
    let long : length c.args.all.now ≡ length new_all = omega arith in
    let faults_long : length faults ≡ length mid = omega arith in elim c.if-is_marked.branch [
      | then-is_marked w ↦
          let marked : in_first evidence costs groups (c.args.part + 1) ≡ true = sym w.if-is_marked.ensures.marked in
          let new_long : length w.add_shifted.new.set ≡ length mid = omega arith in
          subst (AreBothSets evidence costs group test (λ v. some v || (c.args.part + 1 == v)) new_all) (sym w.faults-is)
          (free_marked evidence costs group test some c.args.part out small c.args.all.now faults new_all mid long faults_long made made_faults is w.add_shifted.new.set marked (first_open evidence costs groups c.args.part marked)
          (omega (arith, new_long, faults_long, c.requires.faults)) (sym new_long)
          (λ n h. w.add_shifted.ensures n (omega (arith, h, new_long)) ∙ ap (λ m. has_number mid n || has_shifted c.args.all.now m n) cost))
      | else-is_marked w ↦ subst (AreBothSets evidence costs group test (λ v. some v || (c.args.part + 1 == v)) new_all) (sym w.faults-is)
          (free_unmarked evidence costs group test some c.args.part out small c.args.all.now faults new_all mid long faults_long made made_faults is (sym w.if-is_marked.ensures.marked))
    ]
