use Rattle.std.proofs.Common.{◌∙◌}
use Rattle.bench_reader.proofs.DrivenSignals.{driven-seen}
use Rattle.bench_reader.proofs.signals.is_driven.Goals as goal

pub returns : goal.returns
returns c = c.contains_key.ensures ∙ driven-seen c.args.signal.now c.args.signals.now.entries
