use Rattle.std.proofs.Common.{◌≡◌, ◌++◌, ◌∷◌, [], ap, ◌∙◌}
use Rattle.flat_lists.proofs.Pieces.{pushed}
use Rattle.flat_lists.proofs.flat.FlatLists.push.Goals as goal

pub invariant_of-self-2 : goal.invariant_of-self-2
invariant_of-self-2 g c =
    let items = c.self.inside.items.items in
    let ends = c.self.inside.ends.items in
    let moved : c.push.new.self.items ≡ ends ++ c.len.result ∷ [] = cc (c.in_ok-push.ensures.items, c.in_ok-reserve.ensures.items) in
    (pushed items c.args.list.now c.extend_from_slice.new.self.items ends c.push.new.self.items c.len.result
    c.in_ok-extend_from_slice.ensures.items moved (c.len.ensures ∙ c.extend_from_slice.new.self.ok.0) c.self.invariant).0

pub returns-clause-ok : goal.returns-clause-ok
returns-clause-ok g c =
    let items = c.self.inside.items.items in
    let ends = c.self.inside.ends.items in
    let moved : c.push.new.self.items ≡ ends ++ c.len.result ∷ [] = cc (c.in_ok-push.ensures.items, c.in_ok-reserve.ensures.items) in
    (pushed items c.args.list.now c.extend_from_slice.new.self.items ends c.push.new.self.items c.len.result
    c.in_ok-extend_from_slice.ensures.items moved (c.len.ensures ∙ c.extend_from_slice.new.self.ok.0) c.self.invariant).1
    ∙ ap (λ lists. lists ++ c.args.list.now ∷ []) c.self.view_is
