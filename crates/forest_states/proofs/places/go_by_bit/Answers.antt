use Rattle.std.proofs.Common.{◌∙◌}
use Rattle.forest_states.specs.inner.Descents.{transition_at, met, transitions_of, kept_of, decided_forks, decided_states}
use Rattle.forest_states.proofs.places.go_by_bit.Goals as goal

pub returns-clause-leads : goal.returns-clause-leads
returns-clause-leads c keep =
    let transition = transition_at c.args.cnf.now.clauses c.args.seen.now c.args.var in
    let table = c.in_ok-table.ensures.table ∙ (λ j. transitions_of (met transition (c.clauses_with-touched.ensures j) (c.deref.ensures.value j))) in
    c.in_ok-leads.ensures.leads keep ∙ (λ j. decided_forks (table j) c.args.spot.now.states.lists)

pub returns-clause-base : goal.returns-clause-base
returns-clause-base c =
    let transition = transition_at c.args.cnf.now.clauses c.args.seen.now c.args.var in
    let table = c.in_ok-table.ensures.table ∙ (λ j. transitions_of (met transition (c.clauses_with-touched.ensures j) (c.deref.ensures.value j))) in
    let kept = c.in_ok-table.ensures.kept ∙ (λ j. kept_of (met transition (c.clauses_with-touched.ensures j) (c.deref.ensures.value j))) in
    λ j. record { active = kept j; states = (c.in_ok-leads.ensures.states ∙ (λ k. decided_states (table k) c.args.spot.now.states.lists)) j }
