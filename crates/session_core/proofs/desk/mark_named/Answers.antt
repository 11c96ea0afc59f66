use Rattle.std.proofs.Common.{◌≡◌, ◌∙◌, true, ap, arith, subst}
use Rattle.std.specs.List.{list_all}
use Rattle.std.proofs.lemmas.Grind.{common_steps}
use Rattle.text_rules.specs.Names.{is_among}
use Rattle.text_rules.specs.Tokens.{words, tokens_left}
use Rattle.session_core.proofs.NamedParts.{AreMarked, is_among-at, marked_more}
use Rattle.session_core.proofs.desk.mark_named.Goals as goal

pub loop-name-preserved : goal.loop-name-preserved
loop-name-preserved c =
    let parts = c.args.parts.now in
    let name = c.in-Some.name.now in
    let left = tokens_left c.next.new.self in
    let found = c.in-Some-place_of.ensures in
    let is_part : is_among parts name ≡ true = is_among-at name parts c.in-Some-place_of.part found in
    record {
      can_next = tt;
      is_finite = tt;
      named = c.loop-name.invariant.named ∙ ap (list_all (is_among parts)) c.in-Some.ensures.steps ∙ rw is_part;
      marked = marked_more parts (words c.args.names.now) left name c.loop-name.state c.in-Some-place_of.part
          c.requires.rise found (omega arith)
          (subst (AreMarked parts (words c.args.names.now) c.loop-name.state) c.in-Some.ensures.steps c.loop-name.invariant.marked);
      bits = grind (arith, common_steps);
    }
