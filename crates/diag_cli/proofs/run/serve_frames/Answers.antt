use Rattle.device_files.proofs.ForestChoices.{by_any, by_same}
use Rattle.diag_cli.proofs.run.serve_frames.Goals as goal

pub returns-then-options-clause-follows : goal.returns-then-options-clause-follows
returns-then-options-clause-follows g c = λ path. by_any (λ choose. rw c.if-options.true (c.answer_by.ensures.follows _ c.frame_search.ensures.behaviour))

pub returns-clause-follows : goal.returns-clause-follows
returns-clause-follows g c = λ path. by_same c.frame_service.ensures.behaviour (λ choose is. rw c.if-options.false (c.answer_by-2.ensures.follows _ is))
