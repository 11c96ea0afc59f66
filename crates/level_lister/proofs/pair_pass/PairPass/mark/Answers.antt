use Rattle.std.proofs.Common.{◌≡◌, ◌+◌, ◌*◌, ◌-◌, ◌/◌, ◌≤◌, refl, sym, length, ap, ◌∙◌, subst, arith}
use Rattle.std.specs.Prelude.{◌==◌}
use Rattle.std.proofs.lemmas.Bool.{eqb-true}
use Rattle.level_lister.specs.inner.Pairs.{group_count}
use Rattle.level_lister.proofs.TwoWords.{step_below}
use Rattle.level_lister.proofs.PairNodes.{mark_is}
use Rattle.level_lister.proofs.pair_pass.PairPass.mark.Goals as goal

pub returns : goal.returns
returns c n g le lt =
    let top = c.args.self.now.levels.now.top in
    let count = group_count top in
    let groups = c.args.self.now.groups in
    let same : c.group_count-count.result ≡ group_count top = c.group_count-count.ensures.count in
    let below : group_count top * n + group_count top ≤ group_count top * (top + 1) = step_below (group_count top) n (top + 1) (omega arith) in
    let room : group_count top * (top + 1) ≤ 32 = subst (λ m. m * (top + 1) ≤ 32) same c.group_count-count.ensures.room in
    c.one.ensures (group_count top * n + g) (omega (arith, below, room, lt))
    ∙ ap (λ m. (group_count top * n + g) == (m * c.args.cost + (c.args.part - groups.low) / groups.size)) same
    ∙ mark_is c.args.self.now.evidence.now (length c.args.self.now.levels.now.costs) groups (group_count top) n g c.args.cost c.args.part ((c.args.part - groups.low) / groups.size) lt (omega (arith, c.if-group-count.false, same)) c.requires.part c.if-part-self.false (eqb-true _ 0 (sym c.is_open.ensures ∙ c.if-not-is_open.false)) refl
