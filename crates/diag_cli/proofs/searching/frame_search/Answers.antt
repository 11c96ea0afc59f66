use Rattle.session_core.specs.Services.{shown_by}
use Rattle.search_engine.specs.Searched.{about_of}
use Rattle.diag_cli.specs.Behaviours.{searched_frames}
use Rattle.diag_cli.proofs.Services.{service_for}
use Rattle.diag_cli.proofs.searching.frame_search.Goals as goal

pub returns-clause-behaviour : goal.returns-clause-behaviour
returns-clause-behaviour c =
    let made = c.frames_searched.ensures in
    let options = c.args.options in
    rw c.in_ok-seq.ensures.read (service_for (searched_frames c.args.frames options) options.sessions _ (shown_by about_of) (λ service. c.in_ok-seq.seq) c.frames_searched.result made.unrolled made.service)
