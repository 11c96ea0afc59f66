use Rattle.std.proofs.Common.{arith}
use Rattle.state_rules.proofs.NodesFit.{fits-at}
use Rattle.nnf_text.proofs.ColumnWords.{have_words, marked_more, marked_inside, marked_first, marked_all}
use Rattle.nnf_text.proofs.sharing.mark.Goals as goal

pub word_of-word-requires-clause-kids : goal.word_of-word-requires-clause-kids
word_of-word-requires-clause-kids c = grind (arith, have_words c.requires.fit.0 c.args.nodes.now c.loop-i.i, c.requires.fit.1, c.kids.ensures)

pub word_of-word-requires-clause-fits : goal.word_of-word-requires-clause-fits
word_of-word-requires-clause-fits c = (c.requires.fit.0, grind (arith, c.what.ensures, c.kids.ensures, fits-at c.requires.fit.0 c.args.nodes.now c.loop-i.i))

pub bounds-variables-twice : goal.bounds-variables-twice
bounds-variables-twice c = grind (arith, marked_inside c.requires.fit.0 c.args.nodes.now c.args.variables.now c.loop-i.i c.loop-i.column, c.what.ensures, c.kids.ensures, c.word_of-word.ensures, c.word_of-word.type_inv)

pub returns-then-twice-ne0 : goal.returns-then-twice-ne0
returns-then-twice-ne0 c = grind (arith, marked_first c.requires.fit.0 c.args.nodes.now c.args.variables.now c.loop-i.i c.loop-i.column, c.what.ensures, c.kids.ensures, c.word_of-word.ensures, c.word_of-word.type_inv)

pub loop-i-preserved : goal.loop-i-preserved
loop-i-preserved c = grind (arith, marked_more c.requires.fit.0 c.args.nodes.now c.args.variables.now c.loop-i.i c.loop-i.column, c.what.ensures, c.kids.ensures, c.word_of-word.ensures)

pub returns : goal.returns
returns c = grind (arith, marked_all c.args.nodes.now c.args.variables.now c.loop-i.i c.loop-i.column)
