use Rattle.std.proofs.Common.{map, ap, ◌∙◌}
use Rattle.forest_states.specs.inner.Descents.{column, goes_to}
use Rattle.forest_states.proofs.places.go_to.Goals as goal

pub returns-clause-column : goal.returns-clause-column
returns-clause-column c =
    let goes = goes_to c.args.cnf.now.clauses c.args.trees c.args.seen.now c.args.numbers.now c.args.tree in
    let same = c.in_ok-picks.ensures.picks ∙ ap (map goes) c.as_slice.ensures.value in
    c.in_ok-column.ensures.column ∙ (λ j. column (same j) c.args.base.now.states.lists)
