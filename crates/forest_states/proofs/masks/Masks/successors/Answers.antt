use Rattle.std.proofs.Common.{true, false, map, ap, sym, ◌∙◌}
use Rattle.std.proofs.lemmas.List.{take_all}
use Rattle.state_rules.specs.Bits.{row_number}
use Rattle.forest_states.specs.inner.TransitionTables.{filled, in_one}
use Rattle.forest_states.specs.inner.Descents.{left_by}
use Rattle.forest_states.proofs.Words.{copied-number}
use Rattle.forest_states.proofs.Masking.{successor-by}
use Rattle.forest_states.proofs.masks.Masks.successors.Goals as goal

pub leave-requires-clause-met : goal.leave-requires-clause-met
leave-requires-clause-met c = (filled c.args.self.now.fresh c.args.state.now, c.fill_row-met.ensures c.args.state.now (c.read.ensures ∙ copied-number 64 c.args.state.now ∙ ap row_number (take_all 64 c.args.state.now c.requires.short)))

pub leave-requires-2-clause-met : goal.leave-requires-2-clause-met
leave-requires-2-clause-met c = (filled c.args.self.now.fresh c.args.state.now, c.fill_row-met.ensures c.args.state.now (c.read.ensures ∙ copied-number 64 c.args.state.now ∙ ap row_number (take_all 64 c.args.state.now c.requires.short)))

pub returns-clause-zero : goal.returns-clause-zero
returns-clause-zero c table is =
    let state = c.args.state.now in
    let met = c.fill_row-met.ensures state (c.read.ensures ∙ copied-number 64 state ∙ ap row_number (take_all 64 state c.requires.short)) in
    c.in_ok-zero.ensures (filled c.args.self.now.fresh state) (map (λ e. e.true_at_0) table) (map (λ e. e.ends) table) met is.zero is.ends
    ∙ (λ j. left_by (is.kept j) (map (λ e. e.ends) table) (in_one (filled (is.fresh j) state) (map (λ e. e.true_at_0) table)))
    ∙ sym (successor-by false table state)

pub returns-clause-one : goal.returns-clause-one
returns-clause-one c table is =
    let state = c.args.state.now in
    let met = c.fill_row-met.ensures state (c.read.ensures ∙ copied-number 64 state ∙ ap row_number (take_all 64 state c.requires.short)) in
    c.in_ok-one.ensures (filled c.args.self.now.fresh state) (map (λ e. e.true_at_1) table) (map (λ e. e.ends) table) met is.one is.ends
    ∙ (λ j. left_by (is.kept j) (map (λ e. e.ends) table) (in_one (filled (is.fresh j) state) (map (λ e. e.true_at_1) table)))
    ∙ sym (successor-by true table state)
