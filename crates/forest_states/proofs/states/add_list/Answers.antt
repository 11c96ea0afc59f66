use Rattle.std.proofs.Common.{map, ap, ◌∙◌, refl}
use Rattle.std.specs.Str.{bytes_eq}
use Rattle.forest_states.specs.inner.BitLists.{bits_in}
use Rattle.forest_states.proofs.KeptStates.{items, state-place, state-added, are-kept}
use Rattle.forest_states.proofs.states.add_list.Goals as goal

pub returns-clause-kept : goal.returns-clause-kept
returns-clause-kept c = (c.requires.kept.0, are-kept items (λ x y. bytes_eq x.items y.items) (λ x y. refl) c.args.size c.into_words.result c.args.state c.requires.size c.into_words.ensures c.args.lists.now.keys c.insert_full.new.self.keys c.in_ok-place.ensures.keys c.requires.kept.1)

pub returns-clause-lists : goal.returns-clause-lists
returns-clause-lists c = ap (λ ks. map (bits_in c.args.size) (map items ks)) c.in_ok-place.ensures.keys ∙ state-added items (λ x y. bytes_eq x.items y.items) (λ x y. refl) c.args.size c.into_words.result c.args.state c.requires.size c.into_words.ensures c.args.lists.now.keys c.requires.kept.1

pub returns-clause-place : goal.returns-clause-place
returns-clause-place c = c.in_ok-place.ensures.index ∙ state-place items (λ x y. bytes_eq x.items y.items) (λ x y. refl) c.args.size c.into_words.result c.args.state c.requires.size c.into_words.ensures c.args.lists.now.keys c.requires.kept.1
