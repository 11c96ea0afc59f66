use Rattle.std.proofs.Common.{◌≡◌, ◌+◌, ◌<◌, not, length, take, ap, sym, ◌∙◌, arith}
use Rattle.std.specs.List.{filter}
use Rattle.elimination_forests.specs.Branches.{order, is_active, bits_of, words_of, branch}
use Rattle.branch_states.proofs.OneStep.{count-more, left-at, IsLeft, stepped-dead, stepped-on, stepped-off, stepped-all}
use Rattle.branch_states.proofs.Rules.{stepped_clauses}
use Rattle.branch_states.proofs.stepping.step_over.Goals as goal
use Rattle.branch_states.proofs.stepping.step_over.Goals.{After-is_left-left, After-from-read, then-is_active, else-is_active+else-left}

left-is : (c : After-is_left-left) → IsLeft c.args.cnf.now.clauses c.args.level c.args.bit c.args.state.now c.loop-at.at c.is_left-left.result
left-is c =
    left-at _ c.args.variables.now.keys _ c.args.variable _ _ _ c.loop-at.read c.clause-clause.result.now _ _ (omega arith) c.requires.order c.clause-clause.ensures c.requires.variable c.requires.state c.loop-at.invariant.reads
    c.is_in-was_in.ensures c.is_left-left.ensures

reads : (c : After-from-read) → c.loop-at.read + c.from-read.result ≡ length (filter (is_active (order c.args.cnf.now.clauses) c.args.level) (take (c.loop-at.at + 1) c.args.cnf.now.clauses))
reads c = count-more (is_active (order c.args.cnf.now.clauses) c.args.level) c.args.cnf.now.clauses c.loop-at.at _ _ _ (omega arith) c.loop-at.invariant.reads c.from-read.ensures (grind (arith, c.is_active.ensures))

pub loop-at-init : goal.loop-at-init
loop-at-init c = grind (arith, stepped_clauses)

pub is_in-was_in-requires : goal.is_in-was_in-requires
is_in-was_in-requires c = grind (arith, stepped_clauses)

pub overflow_add-read : goal.overflow_add-read
overflow_add-read c = grind (arith, stepped_clauses)

pub put_bit-requires : goal.put_bit-requires
put_bit-requires c = grind (arith, stepped_clauses)

pub overflow_add-written : goal.overflow_add-written
overflow_add-written c = grind (arith, stepped_clauses)

-- ---- the result

pub loop-at-preserved : goal.loop-at-preserved
loop-at-preserved c =
    let low : c.loop-at.at < length c.args.cnf.now.clauses = omega arith in
    let at = goal.at.loop-at-preserved c in
    elim c.if-is_active.branch [
      | then-is_active w ↦
          rw (w.next-is, w.written-is)
          (stepped-on _ _ c.args.bit _ c.loop-at.next _ _ _ _ c.is_left-left.result low (left-is at.After-is_left-left) c.loop-at.invariant (reads at.After-from-read) w.put_bit.new.words (grind arith) w.put_bit.auto.words w.put_bit.ensures)
      | else-is_active+else-left w ↦
          rw (w.next-is, w.written-is)
          (stepped-off _ _ c.args.bit _ c.loop-at.next _ _ _ _ c.is_left-left.result low (left-is at.After-is_left-left) c.loop-at.invariant (reads at.After-from-read) (grind arith) (grind (arith, w.else-left.branch)))
    ]

pub returns-then-is_covered-clause-living : goal.returns-then-is_covered-clause-living
returns-then-is_covered-clause-living c list lives s = grind (arith, stepped-dead, left-is (goal.at.returns-then-is_covered-clause-living c).After-is_left-left)

pub returns-clause-living : goal.returns-clause-living
returns-clause-living c list lives s = ap not (sym (stepped-all _ _ c.args.bit _ c.loop-at.next c.loop-at.at _ _ (omega arith) c.loop-at.invariant list lives s).0)

pub returns-clause-next : goal.returns-clause-next
returns-clause-next c list lives s =
    (stepped-all _ _ c.args.bit _ c.loop-at.next c.loop-at.at _ _ (omega arith) c.loop-at.invariant list lives s).1
    ∙ ap (λ n. words_of n (bits_of (is_active (order c.args.cnf.now.clauses) (c.args.level + 1)) c.args.cnf.now.clauses (branch c.args.cnf.now.clauses c.args.level list c.args.bit))) (c.loop-at.auto.next ∙ c.clear.auto.words ∙ c.requires.next)
