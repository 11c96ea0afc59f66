use Rattle.std.proofs.Common.{◌+◌, length, ap, subst, arith}
use Rattle.std.specs.List.{sum_by}
use Rattle.std.proofs.lemmas.List.Sums.{sum_by-cons}
use Rattle.text_rules.specs.TextLines.{all_lines}
use Rattle.component_lang.specs.DesignLines.{after_line}
use Rattle.component_lang.specs.inner.Sections.{reader_in}
use Rattle.component_lang.specs.inner.Sound.{reader_size}
use Rattle.component_lang.proofs.SoundReaders.{Keeps, after_line-keeps}
use Rattle.component_lang.proofs.reading.read_lang.Goals as goal

pub loop-line-preserved : goal.loop-line-preserved
loop-line-preserved c =
    let reader = reader_in c.loop-line.library c.loop-line.section in
    let size = reader_size reader + length c.in-Some.line.now in
    let kept : Keeps size (after_line reader c.in-Some.line.now) = after_line-keeps reader c.in-Some.line.now size c.loop-line.invariant.sound (omega arith) in
    let keeps = subst (Keeps size) c.in-Ok.ensures kept in
    record {
      can_next = tt;
      is_finite = tt;
      same = grind (arith, c.in-Some.ensures.steps, c.in-Ok.ensures);
      sound = keeps.0;
      numbered = grind (arith, c.in-Some.ensures.steps);
      few = omega (arith, keeps.1, sum_by-cons length c.in-Some.line.now (all_lines c.next.new.self), ap (sum_by length) c.in-Some.ensures.steps, c.loop-line.invariant.few);
    }
