use Rattle.std.proofs.Common.{rules, ◌+◌, ◌≤◌, length, Contains, ◌≡◌, List, [], ◌∷◌, ◌++◌, ap, sym, ◌∙◌, subst, arith}
use Rattle.std.specs.Prelude.{is_ok, if◌then◌else◌}
use Rattle.scratch_pool.specs.declared.region.Span.{Span}
use Rattle.scratch_pool.specs.Regions.{Carved, IsSound, words_used, AreStacked}
use Rattle.scratch_pool.proofs.Stacked.{used-append, stacked-append}
use Rattle.scratch_pool.proofs.LentWords.{carved-others}
use Rattle.scratch_pool.proofs.region.Region.carve.Goals as goal

pub invariant_of-self : goal.invariant_of-self
invariant_of-self c =
    let runs : List Span = c.self.inside.runs.items in
    let span : Span = record { start = c.self.inside.used; len = c.args.n } in
    let pushed : c.push.new.self.items ≡ runs ++ span ∷ [] =
    c.push.ensures.items ∙ ap (λ b. if b then runs ++ span ∷ [] else runs) (ap is_ok c.unwrap.ensures) in
    let all = ap words_used pushed in
    let more = used-append runs span in
    let used = c.self.invariant.0 in
    let free = c.if-len-start.false in
    let len = c.len.ensures in
    let same = c.zero.ensures.len in
    let room = c.push.ensures.capacity in
    let sixteen = c.self.invariant.3 in (
      omega (arith, all, more, used),
      omega (arith, free, len, same, c.self.invariant.1),
      subst (AreStacked 0) (sym pushed) (stacked-append 0 runs span c.self.invariant.2 (omega (arith, used)) c.requires.some),
      omega (arith, room, sixteen),
    )

pub returns-clause-others : goal.returns-clause-others
returns-clause-others c = λ other held.
    let region : Carved = record { words = c.self.inside.words.items; runs = c.self.inside.runs.items } in
    let run : Span = record { start = c.self.inside.used; len = c.args.n } in
    let sound : IsSound region = search rules in
    let at : run.start ≡ words_used region.runs = c.self.invariant.0 in
    let fits : run.start + run.len ≤ length region.words = omega (arith, c.if-len-start.false, c.len.ensures, c.self.inside.words.ok.0, c.self.invariant.1) in
    let was_held : Contains region.runs other = subst (λ (r : Carved). Contains r.runs other) (sym c.self.view_is) held in
    rw (c.zero.ensures.words, ← c.self.view_is) (carved-others region sound run other at fits was_held)
