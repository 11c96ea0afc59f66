use Rattle.std.proofs.Common.{◌≡◌, get_or, Some, [], length, subst, sym, ap, ◌∙◌, rules, arith}
use Rattle.std.specs.Ordering.{nat_cmp, is_lt}
use Rattle.std.specs.Cmp.Lexicographic.{slice_cmp}
use Rattle.std.specs.List.Sorted.{IsPermutation}
use Rattle.std.proofs.lemmas.Cmp.{nat_list_cmp_total}
use Rattle.std.proofs.lemmas.List.{get_or-map, length-map}
use Rattle.std.proofs.lemmas.List.Sorted.{ranks_by, answers_always, IsPermutation-map}
use Rattle.text_rules.specs.Names.{Name}
use Rattle.device_model.specs.declared.component.Component.{Component}
use Rattle.device_model.specs.Devices.{part_names}
use Rattle.device_model.specs.inner.Sorting.{NeighboursDiffer, IsFirstRepeat}
use Rattle.device_model.proofs.SortedLists.{Ascends, Ascends-from_sort, Rises-unmap}
use Rattle.device_model.proofs.Steps.{Rises-sorted, repeated-sorted, IsTwice-sorted, sorted_distinct-sorted}
use Rattle.device_model.proofs.building.sorted_parts.Goals as goal

abbrev name_of : Component → Name
name_of p = p.name

pub returns-in-Some-clause-twice : goal.returns-in-Some-clause-twice
returns-in-Some-clause-twice c =
    let ys = c.sort_by.new.self.items in
    let up : Ascends (part_names ys) = Ascends-from_sort name_of ys (c.in_ok-sort_by.ensures.sorted (λ p q. is_lt (slice_cmp nat_cmp p.name q.name)) (ranks_by nat_list_cmp_total name_of) (answers_always _ _ _ (λ f a r g h. search rules))) in
    let moved : IsPermutation (part_names c.args.parts.items) (part_names ys) = IsPermutation-map name_of c.args.parts.items ys c.in_ok-sort_by.ensures.permutation in
    let first : IsFirstRepeat (part_names ys) (Some c.in-Some.place) = subst (λ xs. IsFirstRepeat (part_names xs) (Some c.in-Some.place)) c.deref.ensures.value c.in-Some.ensures in
    let named : get_or (part_names ys) c.in-Some.place [] ≡ c.swap_remove-name.result.name =
    get_or-map name_of ys c.in-Some.place c.swap_remove-name.result [] (omega (arith, first.1, length-map ys name_of)) ∙ ap name_of (sym c.swap_remove-name.ensures.value) in
    grind (arith, IsTwice-sorted)

pub returns : goal.returns
returns c =
    let ys = c.sort_by.new.self.items in
    let up : Ascends (part_names ys) = Ascends-from_sort name_of ys (c.in_ok-sort_by.ensures.sorted (λ p q. is_lt (slice_cmp nat_cmp p.name q.name)) (ranks_by nat_list_cmp_total name_of) (answers_always _ _ _ (λ f a r g h. search rules))) in
    let moved : IsPermutation (part_names c.args.parts.items) (part_names ys) = IsPermutation-map name_of c.args.parts.items ys c.in_ok-sort_by.ensures.permutation in
    let differ : NeighboursDiffer (part_names ys) (length (part_names ys)) = subst (λ xs. NeighboursDiffer (part_names xs) (length (part_names xs))) c.deref.ensures.value c.in_default.ensures in
    record {
      sorted = grind (arith, sorted_distinct-sorted, Rises-unmap name_of ys (Rises-sorted (part_names c.args.parts.items) (part_names ys) moved up differ));
      same = search rules;
      distinct = repeated-sorted (part_names c.args.parts.items) (part_names ys) moved up differ;
      twice = search rules;
    }
