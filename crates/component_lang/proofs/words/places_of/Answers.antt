use Rattle.std.proofs.Common.{refl, arith}
use Rattle.component_lang.proofs.NameLists.{more_places-known, more_places-unknown, position-keys}
use Rattle.component_lang.proofs.words.places_of.Goals as goal

pub loop-word-preserved-in-Continue-1 : goal.loop-word-preserved-in-Continue-1
loop-word-preserved-in-Continue-1 c = record {
  can_next = tt;
  is_finite = tt;
  same = grind (arith, more_places-known, position-keys c.in-Some.word.now c.args.names.now.keys _ refl c.get_index_of.ensures.index, c.in_ok-push.ensures.items);
}

pub loop-word-preserved : goal.loop-word-preserved
loop-word-preserved c = record {
  can_next = tt;
  is_finite = tt;
  same = grind (arith, more_places-unknown, position-keys c.in-Some.word.now c.args.names.now.keys _ refl c.get_index_of.ensures.index);
}
