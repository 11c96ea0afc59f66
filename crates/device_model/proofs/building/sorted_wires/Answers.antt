use Rattle.std.proofs.Common.{◌≡◌, ℕ, map, get_or, Some, List, [], length, subst, sym, ap, ◌∙◌, rules, arith}
use Rattle.std.specs.Ordering.{nat_cmp, is_lt}
use Rattle.std.specs.Cmp.Lexicographic.{slice_cmp}
use Rattle.std.specs.List.Sorted.{IsPermutation}
use Rattle.std.proofs.lemmas.Cmp.{nat_list_cmp_total}
use Rattle.std.proofs.lemmas.List.{get_or-map, length-map}
use Rattle.std.proofs.lemmas.List.Sorted.{ranks_by, answers_always, IsPermutation-map}
use Rattle.text_rules.specs.Names.{Name}
use Rattle.device_model.specs.inner.Sorting.{numbered_from, NeighboursDiffer, IsFirstRepeat}
use Rattle.device_model.proofs.SortedLists.{itself, Ascends, Ascends-from_sort}
use Rattle.device_model.proofs.Steps.{Rises-sorted, repeated-sorted, IsTwice-sorted, sorted_distinct-sorted, map-numbered_from}
use Rattle.device_model.proofs.building.sorted_wires.Goals as goal

abbrev name_of : Name × ℕ → Name
name_of w = w.0

abbrev names_of : List (Name × ℕ) → List Name
names_of ws = map name_of ws

-- the sort permutes the given names
moved_names : (given : List Name) (xs ys : List (Name × ℕ)) → xs ≡ numbered_from 0 given → IsPermutation xs ys → IsPermutation given (names_of ys)
moved_names given xs ys is moved = subst (λ ns. IsPermutation ns (names_of ys)) (ap names_of is ∙ map-numbered_from 0 given) (IsPermutation-map name_of xs ys moved)

pub returns-in-Some-clause-twice : goal.returns-in-Some-clause-twice
returns-in-Some-clause-twice c =
    let ys = c.sort_by.new.self.items in
    let up : Ascends (names_of ys) = Ascends-from_sort name_of ys (c.in_ok-sort_by.ensures.sorted (λ v w. is_lt (slice_cmp nat_cmp v.0 w.0)) (ranks_by nat_list_cmp_total name_of) (answers_always _ _ _ (λ f a r g h. search rules))) in
    let moved = moved_names c.args.wires.items c.in_ok-wires.wires.items ys c.in_ok-wires.ensures c.in_ok-sort_by.ensures.permutation in
    let first : IsFirstRepeat (names_of ys) (Some c.in-Some.place) = subst (λ xs. IsFirstRepeat (names_of xs) (Some c.in-Some.place)) c.deref.ensures.value c.in-Some.ensures in
    let named : get_or (names_of ys) c.in-Some.place [] ≡ c.swap_remove-name.result.0 =
    get_or-map name_of ys c.in-Some.place c.swap_remove-name.result [] (omega (arith, first.1, length-map ys name_of)) ∙ ap name_of (sym c.swap_remove-name.ensures.value) in
    grind (arith, IsTwice-sorted)

pub returns : goal.returns
returns c =
    let ys = c.sort_by.new.self.items in
    let up : Ascends (names_of ys) = Ascends-from_sort name_of ys (c.in_ok-sort_by.ensures.sorted (λ v w. is_lt (slice_cmp nat_cmp v.0 w.0)) (ranks_by nat_list_cmp_total name_of) (answers_always _ _ _ (λ f a r g h. search rules))) in
    let moved = moved_names c.args.wires.items c.in_ok-wires.wires.items ys c.in_ok-wires.ensures c.in_ok-sort_by.ensures.permutation in
    let differ : NeighboursDiffer (names_of ys) (length (names_of ys)) = subst (λ xs. NeighboursDiffer (names_of xs) (length (names_of xs))) c.deref.ensures.value c.in_default.ensures in
    record {
      sorted = sorted_distinct-sorted itself c.args.wires.items (names_of ys) moved (Rises-sorted c.args.wires.items (names_of ys) moved up differ);
      same = search rules;
      distinct = repeated-sorted c.args.wires.items (names_of ys) moved up differ;
      twice = search rules;
    }
