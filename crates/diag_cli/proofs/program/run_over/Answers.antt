use Rattle.std.proofs.Common.{◌+◌, ◌≤◌, length, Err, ap, ◌∙◌, sym, subst}
use Rattle.text_rules.specs.declared.text_lines.TheConstants.{TEXT_LIMIT}
use Rattle.diag_edge.specs.declared.loading.LoadError.TheVariants.{Long}
use Rattle.diag_cli.specs.Behaviours.{behaviour_by}
use Rattle.diag_cli.specs.inner.Serving.{FulfilsBehaviourUnlessMemory}
use Rattle.diag_cli.proofs.ShownEnds.{at_ends, run_shown}
use Rattle.diag_cli.proofs.Headline.{same_file, run_loaded, run_unread}
use Rattle.device_files.proofs.ForestChoices.{by_any, by_same}
use Rattle.diag_cli.proofs.Unread.{unread}
use Rattle.diag_cli.proofs.program.run_over.Goals as goal

pub returns-in-Ok : goal.returns-in-Ok
returns-in-Ok g c =
    let read = c.in-Ok.ensures in
    let done = c.run_file.ensures in
    let same = sym c.deref.ensures.value in
    let input = g.I.Source.shown_is in
    let out = g.O.Sink.shown_is in
    by_same done.follows (λ choose follows.
    run_shown (g.H.Source.shown_is _) (g.H.Source.shown_is _) (input _) (input _) (out _) (out _)
    (run_loaded choose _ _ _ _ _ _ _ done.write_fault c.args.path.now c.args.command _ c.deref.result.now (same_file c.deref.result.now c.in-Ok.file.items _ c.deref.ensures.value read.bytes)
    (λ gone. let is = read.absent gone in let never : ⊥ = cc in never)
    (read.failed.stayed (λ is. let never : ⊥ = cc in never))
    (read.taken ∙ ap (λ text. g.H.Source.taken c.args.shelf.now + length text) same) (subst (λ text. length text ≤ TEXT_LIMIT) same read.short)
    (at_ends (λ x y u v. FulfilsBehaviourUnlessMemory (behaviour_by choose c.args.path.now c.args.command c.deref.result.now) x y u v c.run_file.result)
    (sym (input _)) (sym (input _)) (sym (out _)) (sym (out _)) follows)))

pub say_load_error-requires-clause-limit : goal.say_load_error-requires-clause-limit
say_load_error-requires-clause-limit g c = λ limit is. c.in-Err.ensures.that_limit limit (ap Err is)

pub returns-in-Err : goal.returns-in-Err
returns-in-Err g c =
    let read = c.in-Err.ensures in
    by_any (λ choose.
    run_shown (g.H.Source.shown_is _) (g.H.Source.shown_is _) (g.I.Source.shown_is _) (g.I.Source.shown_is _) (g.O.Sink.shown_is _) (g.O.Sink.shown_is _)
    (run_unread choose _ _ _ _ _ _ _ c.say_load_error.ensures.write_fault c.args.path.now c.args.command read.at_most read.once c.in-Err.error
    (unread c.in-Err.error _ _ _ c.requires.shelf_faults read.failed read.absent read.that_limit read.long_file)
    (λ limit is. read.long.0 (ap Err (is ∙ ap Long (read.that_limit limit (ap Err is))))) c.say_load_error.ensures.said))
