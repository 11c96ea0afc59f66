use Rattle.std.proofs.Common.{◌≡◌, ◌∙◌, Some, ap, map, string_bytes, sym}
use Rattle.diag_cli.specs.Words.{Load, Over, form_of}
use Rattle.diag_cli.specs.inner.Forms.{meant}
use Rattle.diag_cli.proofs.ShownEnds.{run_shown}
use Rattle.diag_cli.proofs.Headline.{run_usage, run_load}
use Rattle.device_files.proofs.ForestChoices.{by_any, by_same}
use Rattle.diag_cli.proofs.program.diag.Goals as goal

pub returns-in-None : goal.returns-in-None
returns-in-None g c =
    let shelf = g.H.Source.shown_is c.args.shelf.now in
    rw (← c.in-None.ensures.form) (by_any (λ choose. (
      _,
      sym c.number.ensures,
      run_shown shelf shelf (g.I.Source.shown_is _) (g.I.Source.shown_is _) (g.O.Sink.shown_is _) (g.O.Sink.shown_is _)
          (run_usage choose _ _ (g.H.Source.shown c.args.shelf.now) _ _ _ _ c.say_usage.ensures.write_fault c.say_usage.ensures.said),
    )))

pub returns-in-Some-Load : goal.returns-in-Some-Load
returns-in-Some-Load g c =
    let shelf = g.H.Source.shown_is c.args.shelf.now in
    let places = c.in-Some-Load.places in
    let is : Some (Load places) ≡ form_of (map string_bytes c.args.words.now) = ap (λ form. Some (meant form)) (sym c.in-Some-Load.field-0-is) ∙ c.in-Some-Load.ensures.form in
    let done = c.load_adder.ensures in
    rw (← is) (by_any (λ choose. (
      _,
      sym c.number-in-Some-Load.ensures,
      run_shown shelf shelf (g.I.Source.shown_is _) (g.I.Source.shown_is _) (g.O.Sink.shown_is _) (g.O.Sink.shown_is _)
          (run_load choose _ _ (g.H.Source.shown c.args.shelf.now) _ _ _ _ done.write_fault places done.said),
    )))

pub returns-in-Some-Over : goal.returns-in-Some-Over
returns-in-Some-Over g c =
    let over = c.in-Some-Over in
    let is : Some (Over over.path.now over.command) ≡ form_of (map string_bytes c.args.words.now) = ap (λ form. Some (meant form)) (sym over.field-0-is) ∙ over.ensures.form in
    rw (← is) (by_same c.run_over.ensures (λ choose run. (_, sym c.number-in-Some-Over.ensures, run)))
