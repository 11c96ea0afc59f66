use Rattle.std.proofs.Common.{◌≡◌, true, []}
use Rattle.text_rules.specs.Tokens.{tokens_left}
use Rattle.component_lang.specs.inner.NameSets.{names_in}
use Rattle.component_lang.proofs.NameLists.{more_places}
use Rattle.component_lang.proofs.words.places_of.Given as goal

abbrev pub invariant-loop-word : goal.invariant-loop-word
invariant-loop-word l = record {
  can_next : goal.iterator-loop-word.can_next l.word-iterator;
  is_finite : goal.iterator-loop-word.is_finite l.word-iterator;
  same : more_places true [] (names_in l.names) (tokens_left l.fn.words) ≡ more_places l.are_known l.places.items (names_in l.names) (tokens_left l.word-iterator);
}
