use Rattle.level_lister.proofs.TwoWords.{tells_or}
use Rattle.level_lister.proofs.pairs.either.Goals as goal

pub returns : goal.returns
returns c evidence costs top step group test other some is_left is_right = tells_or evidence costs top step group test other some c.args.left c.args.right is_left is_right
