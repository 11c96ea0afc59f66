use Rattle.std.specs.Prelude.{MatchOption}
use Rattle.std.proofs.Common.{◌+◌, ◌*◌, ◌≤◌, ℕ, length, refl, sym, subst}
use Rattle.conditioner.specs.Evidence.{bits_of}
use Rattle.diagnosis_lister.specs.inner.Fixing.{fixed_bits}
use Rattle.level_lister.specs.Listing.{cost_words, point_if}
use Rattle.level_lister.specs.Passes.{AreEnough, fixing_passes, point_faults}
use Rattle.level_lister.specs.inner.Searching.{IsListed, FindsNext}
use Rattle.level_lister.proofs.FirstByCost.{finds-alike}
use Rattle.level_lister.proofs.search.Search.find.Goals as goal

pub returns-then-pointed-clause-steps : goal.returns-then-pointed-clause-steps
returns-then-pointed-clause-steps g c =
    let kept = c.args.self.now.levels.now in
    subst (λ pointed. MatchOption c.find_after.result (c.find_after.new.steps ≤ c.args.steps.now + (point_faults (point_if pointed (bits_of c.args.state.now)) + 1))
    (λ _. (length c.args.self.now.graph.now.nodes + 2) * (2 * cost_words kept.top) ≤ length c.args.work.now → (search : ℕ) → AreEnough (length kept.costs) kept.top search
    → c.find_after.new.steps ≤ c.args.steps.now + (point_faults (point_if pointed (bits_of c.args.state.now)) + 1 + fixing_passes search (fixed_bits (length kept.costs) c.find_after.new.evidence)))) (sym c.if-pointed.true) c.find_after.ensures.steps

pub returns-else-pointed-clause-found : goal.returns-else-pointed-clause-found
returns-else-pointed-clause-found g c =
    let graph = c.args.self.now.graph.now in
    let kept = c.args.self.now.levels.now in
    subst (λ pointed. FindsNext graph c.args.evidence.now kept (point_if pointed (bits_of c.args.state.now)) c.find_from.new.evidence c.find_from.result) (sym c.if-pointed.false)
    (finds-alike c.args.evidence.now kept.costs (IsListed graph c.args.evidence.now kept.costs 0 kept.top) _ c.find_from.new.evidence c.find_from.result (λ k l. (l, refl)) (λ k l. l.0) c.find_from.ensures.found)

pub returns-else-pointed-clause-steps : goal.returns-else-pointed-clause-steps
returns-else-pointed-clause-steps g c =
    let kept = c.args.self.now.levels.now in
    subst (λ pointed. MatchOption c.find_from.result (c.find_from.new.steps ≤ c.args.steps.now + (point_faults (point_if pointed (bits_of c.args.state.now)) + 1))
    (λ _. (length c.args.self.now.graph.now.nodes + 2) * (2 * cost_words kept.top) ≤ length c.args.work.now → (search : ℕ) → AreEnough (length kept.costs) kept.top search
    → c.find_from.new.steps ≤ c.args.steps.now + (point_faults (point_if pointed (bits_of c.args.state.now)) + 1 + fixing_passes search (fixed_bits (length kept.costs) c.find_from.new.evidence)))) (sym c.if-pointed.false) c.find_from.ensures.steps
