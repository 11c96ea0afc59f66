use Rattle.std.proofs.lemmas.Result.{err_from_is_err_and}
use Rattle.device_files.specs.Choices.{weighed_by}
use Rattle.device_files.specs.Refusals.{refusal_output}
use Rattle.device_files.proofs.ForestChoices.{by_any, by_same}
use Rattle.device_files.proofs.KeptRefusals.{refused_then}
use Rattle.diag_cli.specs.Behaviours.{served_frames}
use Rattle.diag_cli.specs.Frames.{sequential_in, if_unrolled}
use Rattle.session_core.specs.Services.{shown_by}
use Rattle.graph_engine.specs.Served.{about_of}
use Rattle.diag_cli.proofs.Services.{refused_for, service_for}
use Rattle.diag_cli.proofs.framing.frame_service.Goals as goal

pub returns-in_err-seq-clause-behaviour : goal.returns-in_err-seq-clause-behaviour
returns-in_err-seq-clause-behaviour c =
    let p = err_from_is_err_and c.from_residual.result c.from_residual.ensures.1 in
    let fault = refusal_output c.in_err-seq.field-0.0 in
    let options = c.args.options in
    let frames = c.args.frames in
    rw (p.1, p.2) (by_any (λ choose.
    refused_for (served_frames frames options) options.sessions (if_unrolled frames options (weighed_by options.narrow choose) (sequential_in c.args.file.now)) fault (refused_then _ _ fault c.in_err-seq.ensures.read)))

pub returns-clause-behaviour : goal.returns-clause-behaviour
returns-clause-behaviour c =
    let made = c.service_within.ensures in
    let options = c.args.options in
    by_same made.within (λ choose within. rw c.in_ok-seq.ensures.read (service_for (served_frames c.args.frames options) options.sessions _ (shown_by about_of) (λ service. c.in_ok-seq.seq) c.service_within.result within made.service))
