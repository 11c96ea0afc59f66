use Rattle.std.proofs.Common.{arith}
use Rattle.bench_reader.specs.declared.signals.Driver.TheVariants.{Outside, Gate}
use Rattle.bench_reader.proofs.DrivenSignals.{lookup-seen, insert-seen}
use Rattle.bench_reader.proofs.signals.drive.Goals as goal

pub returns-in-None : goal.returns-in-None
returns-in-None c =
    let k = c.in_ok-insert-in-Gate.ensures in
    grind (arith, k.old, k.entries, lookup-seen c.in-Gate.output.now c.args.signals.now.entries, insert-seen c.in-Gate.output Gate c.args.signals.now.entries)

pub returns-in-Some : goal.returns-in-Some
returns-in-Some c = grind (arith, c.in_ok-insert-in-Gate.ensures.old, lookup-seen c.in-Gate.output.now c.args.signals.now.entries)

pub returns-in-Some-Gate : goal.returns-in-Some-Gate
returns-in-Some-Gate c = grind (arith, c.in_ok-insert-in-Input.ensures.old, lookup-seen c.in-Input.signal.now c.args.signals.now.entries)

pub returns-in-Some-Outside : goal.returns-in-Some-Outside
returns-in-Some-Outside c =
    let k = c.in_ok-insert-in-Input.ensures in
    grind (arith, k.old, k.entries, lookup-seen c.in-Input.signal.now c.args.signals.now.entries, insert-seen c.in-Input.signal Outside c.args.signals.now.entries)

pub returns-in-None-2 : goal.returns-in-None-2
returns-in-None-2 c =
    let k = c.in_ok-insert-in-Input.ensures in
    grind (arith, k.old, k.entries, lookup-seen c.in-Input.signal.now c.args.signals.now.entries, insert-seen c.in-Input.signal Outside c.args.signals.now.entries)
