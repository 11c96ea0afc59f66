use Rattle.std.proofs.Common.{◌≡◌, ◌∙◌, length, ap, subst}
use Rattle.std.specs.Prelude.{IfSome}
use Rattle.scratch_pool.specs.declared.region.Span.{Span}
use Rattle.scratch_pool.specs.Regions.{Carved, words_used, carved}
use Rattle.scratch_pool.proofs.Written.{length-written}
use Rattle.level_lister.proofs.levels.Levels.next.Goals as goal

pub returns-clause-free : goal.returns-clause-free
returns-clause-free c =
    let region = c.args.region.now in
    let run = c.unwrap-run.result in
    let made = subst (λ o. IfSome o (λ (run : Span). (run ≡ record { start = words_used region.runs; len = c.min.result }) × (c.carve.new.self ≡ carved region run))) c.unwrap-run.ensures c.carve.ensures.run in
    let words : length c.carve.new.self.words ≡ length region.words = ap (λ (r : Carved). length r.words) made.1 ∙ length-written region.words run.start _ in
    ap length c.release.ensures.words ∙ length-written c.carve.new.self.words run.start _ ∙ words
