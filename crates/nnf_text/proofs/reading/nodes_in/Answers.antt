use Rattle.std.proofs.Common.{◌+◌, length, ap, arith}
use Rattle.std.proofs.lemmas.Result.{err_from_is_err_and}
use Rattle.text_rules.specs.TextLines.{all_lines}
use Rattle.nnf_text.specs.Refusals.{told}
use Rattle.nnf_text.proofs.LineSteps.{line-more, line-refused, refused-too}
use Rattle.nnf_text.proofs.reading.nodes_in.Goals as goal

pub loop-line-preserved : goal.loop-line-preserved
loop-line-preserved c = record {
  can_next = tt;
  is_finite = tt;
  same = rw (c.loop-line.invariant.same, c.in-Some.ensures.steps) (line-more c.args.vars (c.loop-line.number + 1) c.loop-line.nodes (all_lines c.next.new.self) c.in-Some.line.now c.read_line.new.nodes c.in_ok-read_line.ensures.read);
  numbered = omega (arith, ap length c.in-Some.ensures.steps);
  few = omega (arith, c.loop-line.invariant.few, c.in_ok-read_line.ensures.few);
}

pub returns-in_err-read_line : goal.returns-in_err-read_line
returns-in_err-read_line c =
    let p = err_from_is_err_and c.from_residual.result c.from_residual.ensures.1 in
    rw (p.1, p.2) (refused-too (told c.in_err-read_line.field-0.0) _ _ (λ r f. rw (c.loop-line.invariant.same, c.in-Some.ensures.steps) (line-refused c.args.vars (c.loop-line.number + 1) c.loop-line.nodes (all_lines c.next.new.self) c.in-Some.line.now r f)) c.in_err-read_line.ensures.read)
