use Rattle.std.proofs.Common.{◌++◌, map, length, reverse, get_or, ap, ◌∙◌}
use Rattle.std.specs.List.{range_with_len}
use Rattle.std.proofs.lemmas.List.{length-map}
use Rattle.std.proofs.lemmas.List.FromFn.{length-range_with_len}
use Rattle.forest_states.specs.inner.Descents.{decided_forks, table_at, row_at, forks_found, column_at, stand_decided, stand_part, stand_of}
use Rattle.std.specs.Prelude.{nat_lt}
use Rattle.forest_states.proofs.Mapped.{way-below}
use Rattle.forest_states.proofs.places.go_down.Goals as goal

pub returns-clause-whole : goal.returns-clause-whole
returns-clause-whole c n =
    ap (λ row. length (row n)) c.in_ok-columns.ensures.columns ∙ length-map _ (λ column. get_or column n n)
    ∙ length-map (range_with_len 0 c.args.step.trees) _ ∙ length-range_with_len 0 c.args.step.trees

pub returns-clause-forks : goal.returns-clause-forks
returns-clause-forks c keep =
    let clauses = c.args.cnf.now.clauses in
    let of = map (λ v. v.items) c.args.of.now in
    let s = stand_of c.args.spot.now in
    let v = c.args.step.var in
    let seen = c.as_slice.ensures.value in
    let marked = c.as_slice-2.ensures.value ∙ c.mark.ensures in
    let numbers = c.as_slice-3.ensures.value ∙ c.number_trees.ensures.numbers in
    let base = c.in_ok-leads.ensures.base ∙ (λ j. stand_decided clauses of (seen j) v s) in
    let columns = c.in_ok-columns.ensures.columns ∙ (λ j. row_at (map (λ i. column_at clauses c.args.step.trees (marked j) (numbers j) i (base j)) (range_with_len 0 c.args.step.trees))) in
    let leads = c.in_ok-leads.ensures.leads keep ∙ (λ j. decided_forks (table_at clauses of (seen j) v s.active) s.states) in
    λ j. forks_found c.args.step.trees (columns j) (leads j)

pub returns-clause-way : goal.returns-clause-way
returns-clause-way c =
    let of = map (λ v. v.items) c.args.of.now in
    let base = c.in_ok-leads.ensures.base ∙ (λ j. stand_decided c.args.cnf.now.clauses of (c.as_slice.ensures.value j) c.args.step.var (stand_of c.args.spot.now)) in
    ap (nat_lt 0) (c.len-has_way.ensures ∙ ap (λ s. length s.states) base) ∙ way-below c.args.cnf.now.clauses of c.args.seen.now.items c.args.numbers.now.items c.args.step c.args.rest.now (stand_of c.args.spot.now)

pub returns-clause-pending : goal.returns-clause-pending
returns-clause-pending c =
    let clauses = c.args.cnf.now.clauses in
    let s = stand_of c.args.spot.now in
    let seen = c.as_slice.ensures.value in
    let marked = c.as_slice-2.ensures.value ∙ c.mark.ensures in
    let numbers = c.as_slice-3.ensures.value ∙ c.number_trees.ensures.numbers in
    let base = c.in_ok-leads.ensures.base ∙ (λ j. stand_decided clauses (map (λ v. v.items) c.args.of.now) (seen j) c.args.step.var s) in
    c.in_ok-columns.ensures.pending
    ∙ (λ j. map (λ i. stand_part clauses c.args.step.trees (marked j) (numbers j) i (base j)) (range_with_len 0 c.args.step.trees) ++ reverse (map stand_of c.args.pending.now.items))
