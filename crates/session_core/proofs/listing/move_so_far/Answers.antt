use Rattle.session_core.specs.inner.Desks.{on_desk}
use Rattle.std.proofs.Common.{◌∙◌, arith}
use Rattle.session_core.specs.inner.Holding.{shown_of}
use Rattle.session_core.proofs.SessionMoves.{lists_more, lists_end, lists_broken, carries_broken}
use Rattle.session_core.proofs.listing.move_so_far.Goals as goal

pub returns-in_err-move_on-clause-moves : goal.returns-in_err-move_on-clause-moves
returns-in_err-move_on-clause-moves g c = λ entry here.
    let lists = c.loop.invariant.lists entry here in
    carries_broken c.args.opened.now.table c.move_on.new.opened.table _ _ _ c.from_residual.result c.from_residual.ensures.0
    (lists_broken (shown_of (on_desk g.E.Engine.about c.args.desk.now).system c.args.opened.now) c.args.listed c.args.session.place c.args.session.name.now entry c.args.count
    (shown_of (on_desk g.E.Engine.about c.loop.desk).system c.loop.opened) (shown_of (on_desk g.E.Engine.about c.move_on.new.desk).system c.move_on.new.opened) c.loop.counter c.loop-test.true _ _ _ lists _
    (c.in_err-move_on.ensures.moves (record entry { point = lists.point }) lists.stands))

pub returns-then-not-branch-clause-moves : goal.returns-then-not-branch-clause-moves
returns-then-not-branch-clause-moves g c = λ entry here.
    let lists = c.loop.invariant.lists entry here in
    lists_end (shown_of (on_desk g.E.Engine.about c.args.desk.now).system c.args.opened.now) c.args.listed c.args.session.place c.args.session.name.now entry c.args.count
    (shown_of (on_desk g.E.Engine.about c.loop.desk).system c.loop.opened) (shown_of (on_desk g.E.Engine.about c.move_on.new.desk).system c.move_on.new.opened) c.loop.counter c.loop-test.true _ _ _ lists c.in_ok-move_on.field-0
    (c.in_ok-move_on.ensures.moves (record entry { point = lists.point }) lists.stands) c.if-not-branch.true

pub loop-preserved : goal.loop-preserved
loop-preserved g c = record {
  lists = λ entry here.
      let lists = c.loop.invariant.lists entry here in
      lists_more (shown_of (on_desk g.E.Engine.about c.args.desk.now).system c.args.opened.now) c.args.listed c.args.session.place c.args.session.name.now entry c.args.count
      (shown_of (on_desk g.E.Engine.about c.loop.desk).system c.loop.opened) (shown_of (on_desk g.E.Engine.about c.move_on.new.desk).system c.move_on.new.opened) c.loop.counter c.loop-test.true _ _ _ lists c.in_ok-move_on.field-0
      (c.in_ok-move_on.ensures.moves (record entry { point = lists.point }) lists.stands) c.if-not-branch.false;
  together = c.in_ok-move_on.ensures.together;
  stays = grind arith;
  still = c.in_ok-move_on.ensures.still;
  faults = c.in_ok-move_on.ensures.cause.stayed ∙ c.loop.invariant.faults;
}
