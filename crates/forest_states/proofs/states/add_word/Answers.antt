use Rattle.std.proofs.Common.{map, ap, ◌∙◌}
use Rattle.std.specs.Prelude.{nat_eq}
use Rattle.forest_states.specs.inner.BitLists.{bits_in}
use Rattle.forest_states.proofs.KeptStates.{single, one-word, state-place, state-added, are-kept}
use Rattle.forest_states.proofs.states.add_word.Goals as goal

pub returns-clause-kept : goal.returns-clause-kept
returns-clause-kept c = (c.requires.kept.0, are-kept single nat_eq one-word c.args.size c.into_word.result c.args.state c.requires.size c.into_word.ensures c.args.words.now.keys c.insert_full.new.self.keys c.in_ok-place.ensures.keys c.requires.kept.1)

pub returns-clause-lists : goal.returns-clause-lists
returns-clause-lists c = ap (λ ks. map (bits_in c.args.size) (map single ks)) c.in_ok-place.ensures.keys ∙ state-added single nat_eq one-word c.args.size c.into_word.result c.args.state c.requires.size c.into_word.ensures c.args.words.now.keys c.requires.kept.1

pub returns-clause-place : goal.returns-clause-place
returns-clause-place c = c.in_ok-place.ensures.index ∙ state-place single nat_eq one-word c.args.size c.into_word.result c.args.state c.requires.size c.into_word.ensures c.args.words.now.keys c.requires.kept.1
