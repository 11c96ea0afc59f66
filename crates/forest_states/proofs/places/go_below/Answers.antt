use Rattle.std.proofs.Common.{◌++◌, [], ◌∷◌, map, reverse, ap, sym, ◌∙◌}
use Rattle.std.proofs.lemmas.List.{map-append, reverse-append}
use Rattle.forest_states.specs.inner.Descents.{stand_of}
use Rattle.forest_states.proofs.OneTreeBases.{whole-stands, whole-row}
use Rattle.forest_states.proofs.places.go_below.Goals as goal

pub returns-then-is_whole-clause-columns : goal.returns-then-is_whole-clause-columns
returns-then-is_whole-clause-columns c =
    sym (whole-row c.args.cnf.now.clauses c.args.trees c.args.seen.now c.args.numbers.now (stand_of c.args.base) c.requires.once (c.is_whole.ensures c.if-is_whole.true))

pub returns-then-is_whole-clause-pending : goal.returns-then-is_whole-clause-pending
returns-then-is_whole-clause-pending c =
    let old = c.args.pending.now.items in
    ap (λ ps. reverse (map stand_of ps)) c.in_ok-push.ensures.items
    ∙ ap reverse (map-append stand_of old (c.args.base ∷ [])) ∙ reverse-append (map stand_of old) (stand_of c.args.base ∷ [])
    ∙ ap (λ ss. ss ++ reverse (map stand_of old)) (sym (whole-stands c.args.cnf.now.clauses c.args.trees c.args.seen.now c.args.numbers.now (stand_of c.args.base) c.requires.once (c.is_whole.ensures c.if-is_whole.true)))
