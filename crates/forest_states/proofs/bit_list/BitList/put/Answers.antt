use Rattle.std.proofs.Common.{◌≡◌, ◌+◌, ◌/◌, ◌%◌, ◌≤◌, ◌++◌, length, ap, ◌∙◌, arith}
use Rattle.elimination_forests.specs.Branches.{words_of}
use Rattle.forest_states.specs.inner.BitLists.{bits_in}
use Rattle.forest_states.proofs.Words.{length-bits, words-room, words-kept, pushed-bits, pushed-are, pushed-room}
use Rattle.forest_states.proofs.bit_list.BitList.put.Goals as goal
use Rattle.forest_states.proofs.bit_list.BitList.put.Goals.{Joined-self-count-eq64, then-self-count-eq64+in_ok-push, else-self-count-eq64}

within : (c : Joined-self-count-eq64) → c.self.inside.len % 64 + c.args.count ≤ 64
within c = omega (arith, c.requires.within, ap length c.self.view_is, length-bits c.self.inside.len c.self.inside.words.items)

room : (c : Joined-self-count-eq64) → c.if-self-count-eq64.self-inside.words.items ≡ words_of ((c.self.inside.len + c.args.count) / 64 + 1) (bits_in c.self.inside.len c.self.inside.words.items)
room c = elim c.if-self-count-eq64.branch [
  | then-self-count-eq64+in_ok-push w ↦ ap (λ i. i.words.items) w.self-inside-is ∙ w.in_ok-push.ensures.ok ∙ words-room c.self.inside.len c.args.count c.self.inside.words.items c.self.invariant w.if-self-count-eq64.true
  | else-self-count-eq64 w ↦ ap (λ i. i.words.items) w.self-inside-is ∙ words-kept c.self.inside.len c.args.count c.self.inside.words.items c.self.invariant (within c) w.if-self-count-eq64.false
]

same : (c : Joined-self-count-eq64) → c.if-self-count-eq64.self-inside.len ≡ c.self.inside.len
same c = elim c.if-self-count-eq64.branch [
  | then-self-count-eq64+in_ok-push w ↦ ap (λ i. i.len) w.self-inside-is
  | else-self-count-eq64 w ↦ ap (λ i. i.len) w.self-inside-is
]

pub put_row-requires : goal.put_row-requires
put_row-requires c =
    let d = (goal.at.put_row-requires c).Joined-self-count-eq64 in
    omega (arith, same d, pushed-room c.self.inside.len c.args.count c.self.inside.words.items c.if-self-count-eq64.self-inside.words.items c.as_mut_slice.result.now (room d) c.as_mut_slice.ensures.value)

pub invariant_of-self-2 : goal.invariant_of-self-2
invariant_of-self-2 c =
    let d = (goal.at.invariant_of-self-2 c).Joined-self-count-eq64 in
    let row = c.requires.row in
    pushed-are c.self.inside.len c.if-self-count-eq64.self-inside.len c.args.count c.args.row c.self.inside.words.items c.if-self-count-eq64.self-inside.words.items c.as_mut_slice.result.now c.put_row.new.words row.0 row.1.0 row.1.1 (within d)
    (same d) (room d) c.as_mut_slice.ensures.value c.put_row.ensures.long c.put_row.ensures.words

pub returns : goal.returns
returns c more many is =
    let d = (goal.at.returns c).Joined-self-count-eq64 in
    pushed-bits c.self.inside.len c.if-self-count-eq64.self-inside.len c.args.count c.args.row c.self.inside.words.items c.if-self-count-eq64.self-inside.words.items c.as_mut_slice.result.now c.put_row.new.words more many is (within d)
    (same d) (room d) c.as_mut_slice.ensures.value c.put_row.ensures.long c.put_row.ensures.words
    ∙ ap (λ bits. bits ++ more) c.self.view_is
