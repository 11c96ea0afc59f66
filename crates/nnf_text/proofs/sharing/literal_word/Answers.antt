use Rattle.std.proofs.Common.{Ok, Err, arith}
use Rattle.std.proofs.lemmas.Bool.{cases_lt}
use Rattle.std.proofs.lemmas.List.Sorted.{searched}
use Rattle.nnf_text.proofs.Bits.{found-bit, no-bit, in_order}
use Rattle.nnf_text.proofs.sharing.literal_word.Goals as goal

pub returns-in-Ok : goal.returns-in-Ok
returns-in-Ok c = grind (arith, searched c.args.variables.now c.args.var (Ok c.in-Ok.place) c.in-Ok.ensures.position, in_order c.args.variables.now c.requires.rise, found-bit c.args.variables.now c.requires.rise c.requires.short c.args.var)

pub returns-in-Err : goal.returns-in-Err
returns-in-Err c = grind (arith, cases_lt, searched c.args.variables.now c.args.var (Err c.in-Err.field-0) c.in-Err.ensures.position, in_order c.args.variables.now c.requires.rise, no-bit c.args.variables.now c.requires.rise c.requires.short c.args.var)
