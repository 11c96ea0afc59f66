use Rattle.std.proofs.Common.{◌≡◌, ◌≤◌, ◌+◌, ◌++◌, [], ◌∷◌, not, length, drop, get_or, ap, sym, ◌∙◌, ◌&&◌, ◌||◌, arith}
use mir.Val.{bool_byte}
use Rattle.std.proofs.lemmas.List.{length-append}
use Rattle.forest_states.specs.inner.BitLists.{copied}
use Rattle.forest_states.specs.inner.TransitionTables.{true_at, spread}
use Rattle.forest_states.specs.inner.Descents.{successor}
use Rattle.forest_states.proofs.Sets.{behind}
use Rattle.forest_states.proofs.Words.{length-copied}
use Rattle.forest_states.proofs.Successors.{behind-kept, ended-passed, ended-dead}
use Rattle.forest_states.proofs.Spread.{none, byte-low, told, told-more, successor-on}
use Rattle.forest_states.proofs.transition_tables.successor.Goals as goal
use Rattle.forest_states.proofs.transition_tables.successor.Goals.{then-not-change+in_ok-push, else-not-change+else-is_left}

pub returns-then-is_left : goal.returns-then-is_left
returns-then-is_left c =
    let es = c.args.changes.now in
    let k = c.loop-change.change-index in
    let e = get_or es k none in
    let is = c.is_left-is_left.ensures ∙ (λ j. (e.transition.fresh || c.at.ensures j) && not (true_at e.transition c.args.bit)) in
    ended-dead e.transition.ends _ (c.loop-change.left ++ copied e.run (drop c.loop-change.next c.args.state.now)) _ c.if-not-change.false (sym is ∙ c.if-is_left.true)
    ∙ sym (successor-on c.args.bit es c.args.rest k c.loop-change.next none c.loop-change.left c.args.state.now c.loop-change-test.true)
    ∙ c.loop-change.invariant.left

pub loop-change-preserved : goal.loop-change-preserved
loop-change-preserved c =
    let es = c.args.changes.now in
    let state = c.args.state.now in
    let k = c.loop-change.change-index in
    let n = c.loop-change.next in
    let e = get_or es k none in
    let left = c.loop-change.left ++ copied e.run (drop n state) in
    let step : n + e.run + c.from-next.result ≡ n + e.run + bool_byte (not e.transition.fresh) = ap (λ m. n + e.run + m) c.from-next.ensures in
    let rest = successor c.args.bit (spread (drop (k + 1) es) c.args.rest) (drop (n + e.run + bool_byte (not e.transition.fresh)) state) in
    let low : n + e.run + c.from-next.result ≤ told es (k + 1) = omega (arith, c.from-next.ensures, byte-low (not e.transition.fresh), c.loop-change.invariant.low, told-more es k none c.loop-change-test.true) in
    let is = c.is_left-is_left.ensures ∙ (λ j. (e.transition.fresh || c.at.ensures j) && not (true_at e.transition c.args.bit)) in
    let from = successor-on c.args.bit es c.args.rest k n none c.loop-change.left state c.loop-change-test.true in
    elim c.if-not-change.branch [
      | then-not-change+in_ok-push w ↦ record {
        low = low;
        short = omega (arith, ap length (w.left-is ∙ w.in_ok-push.ensures ∙ ap (λ bits. bits ++ c.is_left-is_left.result ∷ []) c.in_ok-append.ensures), length-append left (c.is_left-is_left.result ∷ []), length-append c.loop-change.left (copied e.run (drop n state)), length-copied e.run (drop n state), told-more es k none c.loop-change-test.true, c.loop-change.invariant.short);
        left = (λ j. behind ((w.left-is ∙ w.in_ok-push.ensures) j) (successor c.args.bit (spread (drop (k + 1) es) c.args.rest) (drop (step j) state)))
            ∙ (λ j. behind (c.in_ok-append.ensures j ++ is j ∷ []) rest)
            ∙ sym (behind-kept e.transition.ends _ left rest w.if-not-change.true)
            ∙ sym from ∙ c.loop-change.invariant.left;
      }
      | else-not-change+else-is_left w ↦ record {
        low = low;
        short = omega (arith, ap length (w.left-is ∙ c.in_ok-append.ensures), length-append c.loop-change.left (copied e.run (drop n state)), length-copied e.run (drop n state), told-more es k none c.loop-change-test.true, c.loop-change.invariant.short);
        left = (λ j. behind ((w.left-is ∙ c.in_ok-append.ensures) j) (successor c.args.bit (spread (drop (k + 1) es) c.args.rest) (drop (step j) state)))
            ∙ ap (behind left) (sym (ended-passed e.transition.ends _ rest w.if-not-change.false (sym is ∙ w.if-is_left.false)))
            ∙ sym from ∙ c.loop-change.invariant.left;
      }
    ]
