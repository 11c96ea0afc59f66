use Rattle.std.proofs.Common.{[], inl, inr, refl, arith, codes}
use Rattle.text_rules.specs.TextLines.{cut, whole_lines, last_line, all_lines}
use Rattle.diag_edge.proofs.GrownBytes.{consumes_none}
use Rattle.session_core.specs.Services.{shown_by, moves_of}
use Rattle.diag_cli.specs.Behaviours.{Ended, Failed, Cut, read_error}
use Rattle.device_files.specs.Output.{too_long_line}
use Rattle.diag_cli.specs.inner.Serving.{answers_by}
use Rattle.diag_cli.specs.declared.serving.TheConstants.{SCRIPT_LIMIT}
use Rattle.device_files.proofs.FailedWrites.{gives_all, gives_after}
use Rattle.diag_cli.proofs.AnsweredScripts.{breaks_behind, breaks_at_once, ready_then, ready_begun, lines_begun, first_given, answered_first, stopped_at_once, stopped_at_end}
use Rattle.diag_cli.proofs.ShownEnds.{served_shown}
use Rattle.diag_cli.proofs.serving.answer.Goals as goal

pub returns-in-Err-clause-served : goal.returns-in-Err-clause-served
returns-in-Err-clause-served g c =
    let shown = shown_by g.E.Engine.about c.args.service.now in
    served_shown (g.I.Source.shown_is _) (g.I.Source.shown_is _) (g.O.Sink.shown_is _) (g.O.Sink.shown_is _) [] (omega arith) (consumes_none _) (inr (
      refl,
      record {
        reads = refl;
        lines = [];
        are = inl (omega arith, refl);
        begun = ready_begun shown c.parts.ensures.sound _ _ _ _ c.parts.ensures.parts c.wires.ensures c.in-Err.ensures.text;
        stopped = λ some. absurd (omega (arith, some));
      },
    ))

pub returns-in-WriteFault-clause-served : goal.returns-in-WriteFault-clause-served
returns-in-WriteFault-clause-served g c =
    let shown = shown_by g.E.Engine.about c.args.service.now in
    let done = c.in-WriteFault.ensures.served in
    let kept = c.in-WriteFault.ensures.read_fault.stayed (λ e. let never : ⊥ = cc in never) in
    served_shown (g.I.Source.shown_is _) (g.I.Source.shown_is _) (g.O.Sink.shown_is _) (g.O.Sink.shown_is _) done.0 done.1 done.2 (inr (
      refl,
      elim done.3.1 [
        | inl at ↦ record {
          reads = kept;
          lines = whole_lines done.0;
          are = inl (done.3.0, refl);
          begun = lines_begun shown c.parts.ensures.sound _ _ _ _ _ c.requires.none_open c.parts.ensures.parts c.wires.ensures c.in-Ok.ensures.text _ (whole_lines done.0) _
              (breaks_at_once (moves_of shown) _ _ _ _ done.0 at);
          stopped = λ some. stopped_at_once shown c.parts.ensures.sound _ _ _ _ _ c.requires.none_open c.parts.ensures.parts c.wires.ensures c.in-Ok.ensures.text _ done.0 _ at;
        }
        | inr at ↦ record {
          reads = kept;
          lines = all_lines done.0;
          are = inr (at.0, at.1, refl);
          begun = lines_begun shown c.parts.ensures.sound _ _ _ _ _ c.requires.none_open c.parts.ensures.parts c.wires.ensures c.in-Ok.ensures.text _ (all_lines done.0) _
              (breaks_behind (moves_of shown) _ _ _ _ (whole_lines done.0) (last_line (cut done.0).unfinished) at.2);
          stopped = λ some. stopped_at_end shown c.parts.ensures.sound _ _ _ _ _ c.requires.none_open c.parts.ensures.parts c.wires.ensures c.in-Ok.ensures.text _ done.0 (last_line (cut done.0).unfinished) _ at.2;
        }
      ],
    ))

pub returns-in-Done-clause-served : goal.returns-in-Done-clause-served
returns-in-Done-clause-served g c =
    let shown = shown_by g.E.Engine.about c.args.service.now in
    let done = c.in-Done.ensures.served in
    served_shown (g.I.Source.shown_is _) (g.I.Source.shown_is _) (g.O.Sink.shown_is _) (g.O.Sink.shown_is _) done.0 done.1 done.2 (inl (record {
      end = Ended;
      ends = (done.3.0, done.3.1, c.in-Done.ensures.read_fault.stayed (λ e. let never : ⊥ = cc in never));
      answered = answered_first shown c.parts.ensures.sound _ _ _ _ _ c.requires.none_open c.parts.ensures.parts c.wires.ensures c.in-Ok.ensures.text _ (whole_lines done.0) (last_line (cut done.0).unfinished) _ done.3.2;
      gives = gives_all _ _ _ _ (λ five. let never : ⊥ = cc in never) refl
          (ready_then shown c.parts.ensures.sound _ _ _ _ _ c.requires.none_open c.parts.ensures.parts c.wires.ensures c.in-Ok.ensures.text _ (all_lines done.0) _ done.3.2);
    }))

pub returns-in-ReadFault-clause-served : goal.returns-in-ReadFault-clause-served
returns-in-ReadFault-clause-served g c =
    let shown = shown_by g.E.Engine.about c.args.service.now in
    let done = c.in-ReadFault.ensures.served in
    let answers = answers_by shown in
    let written = ready_then shown c.parts.ensures.sound _ _ _ _ _ c.requires.none_open c.parts.ensures.parts c.wires.ensures c.in-Ok.ensures.text _ (whole_lines done.0) _ done.3.1 in
    served_shown (g.I.Source.shown_is _) (g.I.Source.shown_is _) (g.O.Sink.shown_is _) (g.O.Sink.shown_is _) done.0 done.1 done.2 (inl (record {
      end = Failed;
      ends = (done.3.0, c.in-ReadFault.ensures.read_fault.rose refl);
      answered = first_given (answers (whole_lines done.0)) _ _ _ _ _ written c.say_read_fault.ensures.said;
      gives = gives_after (answers (whole_lines done.0)) read_error _ _ _ _ _ written c.say_read_fault.ensures.said;
    }))

pub returns-in-Limit-clause-served : goal.returns-in-Limit-clause-served
returns-in-Limit-clause-served g c =
    let shown = shown_by g.E.Engine.about c.args.service.now in
    let done = c.in-Limit.ensures.served in
    let answers = answers_by shown in
    let written = ready_then shown c.parts.ensures.sound _ _ _ _ _ c.requires.none_open c.parts.ensures.parts c.wires.ensures c.in-Ok.ensures.text _ (whole_lines done.0) _ done.3.1 in
    served_shown (g.I.Source.shown_is _) (g.I.Source.shown_is _) (g.O.Sink.shown_is _) (g.O.Sink.shown_is _) done.0 done.1 done.2 (inl (record {
      end = Cut;
      ends = (done.3.0, c.in-Limit.ensures.read_fault.stayed (λ e. let never : ⊥ = cc in never));
      answered = first_given (answers (whole_lines done.0)) _ _ _ _ _ written c.say_too_long.ensures.said;
      gives = gives_after (answers (whole_lines done.0)) (too_long_line (codes "script") SCRIPT_LIMIT) _ _ _ _ _ written c.say_too_long.ensures.said;
    }))
