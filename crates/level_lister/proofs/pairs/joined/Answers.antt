use Rattle.std.proofs.Common.{◌+◌, ◌*◌, ◌<◌, ◌≤◌, subst}
use Rattle.level_lister.specs.inner.Pairs.{IsSpread}
use Rattle.level_lister.proofs.TwoWords.{tells_and}
use Rattle.level_lister.proofs.pairs.joined.Goals as goal

pub returns : goal.returns
returns c evidence costs top groups group test other some more same few apart is_left is_right =
    tells_and evidence costs top groups group test other some more c.args.left c.args.right c.spread.result c.spread-2.result c.spread-3.result (subst (λ m. 0 < m) same c.requires.step)
    (subst (λ n. groups * n ≤ 32) few (subst (λ m. m * c.args.count ≤ 32) same c.requires.room)) apart
    (subst (λ n. IsSpread c.args.left.costs c.args.right.costs 1 n c.spread.result) few c.spread.ensures)
    (subst (λ m. IsSpread c.args.left.faults c.args.right.costs m (top + 1) c.spread-2.result) same (subst (λ n. IsSpread c.args.left.faults c.args.right.costs c.args.step n c.spread-2.result) few c.spread-2.ensures))
    (subst (λ m. IsSpread c.args.right.faults c.args.left.costs m (top + 1) c.spread-3.result) same (subst (λ n. IsSpread c.args.right.faults c.args.left.costs c.args.step n c.spread-3.result) few c.spread-3.ensures))
    is_left is_right
