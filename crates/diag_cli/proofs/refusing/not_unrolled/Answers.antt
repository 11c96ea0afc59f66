use Rattle.diag_cli.proofs.refusing.not_unrolled.Goals as goal

pub returns-in-TooManyParts : goal.returns-in-TooManyParts
returns-in-TooManyParts c = rw c.in-TooManyParts.is c.above.ensures

pub returns-in-TooManyWires : goal.returns-in-TooManyWires
returns-in-TooManyWires c = rw c.in-TooManyWires.is c.above-in-TooManyWires.ensures

pub returns-in-TooManyClauses : goal.returns-in-TooManyClauses
returns-in-TooManyClauses c = rw c.in-TooManyClauses.is c.above-in-TooManyClauses.ensures
