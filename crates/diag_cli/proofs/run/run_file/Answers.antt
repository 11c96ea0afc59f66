use Rattle.device_files.proofs.ForestChoices.{by_any, by_same}
use Rattle.diag_cli.proofs.ShownEnds.{told_shown}
use Rattle.diag_cli.proofs.run.run_file.Goals as goal

pub returns-in-Inspect-clause-follows : goal.returns-in-Inspect-clause-follows
returns-in-Inspect-clause-follows g c =
    by_same c.inspect_file.ensures.said (λ choose said. rw c.in-Inspect.is (told_shown (g.O.Sink.shown_is c.args.out.now) (g.O.Sink.shown_is c.inspect_file.new.out) said))

pub returns-in-Compile-clause-follows : goal.returns-in-Compile-clause-follows
returns-in-Compile-clause-follows g c =
    by_same c.compile_file.ensures.said (λ choose said. rw c.in-Compile.is (told_shown (g.O.Sink.shown_is c.args.out.now) (g.O.Sink.shown_is c.compile_file.new.out) said))

pub returns-in-Serve-clause-follows : goal.returns-in-Serve-clause-follows
returns-in-Serve-clause-follows g c = rw c.in-Serve.is c.serve_device.ensures.follows

pub returns-in-ServeFrames-clause-follows : goal.returns-in-ServeFrames-clause-follows
returns-in-ServeFrames-clause-follows g c = rw c.in-ServeFrames.is (c.serve_frames.ensures.follows c.args.path.now)

pub returns-in-Ask-clause-follows : goal.returns-in-Ask-clause-follows
returns-in-Ask-clause-follows g c = by_any (λ choose. rw c.in-Ask.is (c.answer_by.ensures.follows _ c.graph_service.ensures.behaviour))
