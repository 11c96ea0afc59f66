use Rattle.std.proofs.Common.{rules, tests, ap, not}
use Rattle.std.proofs.lemmas.Iterator.{YieldsList-from_slice}
use Rattle.std.proofs.lemmas.Iterator.Search.{any_from_yields_List}
use Rattle.text_rules.specs.Names.{is_mark}
use Rattle.bench_reader.proofs.statement.has_no_mark.Goals as goal

pub returns : goal.returns
returns c = ap not (any_from_yields_List is_mark _ _ c.any.result c.any.ensures.ran (YieldsList-from_slice c.args.token.now (cc)) (λ x b q k. search (rules, tests)))
