-- What is made of the ways of a variable's bits.
use Rattle.std.proofs.Common.{◌≡◌, ◌≢◌, ℕ, ◌+◌, ◌<◌, Bool, true, false, ◌&&◌, List, [], ◌∷◌, ◌++◌, length, Some, None, Option, refl, ap, sym, ◌∙◌, arith}
use Rattle.std.specs.Prelude.{◌==◌, slice_get, IfSome, Vec}
use Rattle.std.specs.declared.alloc.Global.{Global}
use Rattle.std.specs.List.{list_any, list_all, AllByRecursion}
use Rattle.std.proofs.lemmas.Bool.Decides.{nat_tests}
use Rattle.std.proofs.lemmas.List.Elements.{All-from_recursion}
use Rattle.std.proofs.lemmas.Slice.Zip.{AllZip-long}
use Rattle.state_rules.proofs.Children.{at_most_one-from, at_most_one-none}
use Rattle.state_rules.specs.Bits.{same_bit}
use Rattle.state_rules.specs.Assignments.{Assignment}
use Rattle.state_rules.specs.Graphs.{Node, at_most_one, is_true, mentions}
use Rattle.state_rules.proofs.Lists.{list_any-map}
use Rattle.state_rules.proofs.Members.{any_same}
use Rattle.elimination_forests.proofs.Lists.{each-at, map_same}
use Rattle.node_store.specs.declared.store.TheConstants.{MADE_LIMIT}
use Rattle.dnnf_compiler.specs.declared.maker.Maker.{Maker}
use Rattle.dnnf_compiler.specs.inner.Joining.{Grows}
use Rattle.dnnf_compiler.specs.inner.Making.{IsMaker, Adds, IsJoin}
use Rattle.dnnf_compiler.specs.inner.Meeting.{AreApart, AreMeetable, IsMeet, taken, AreHeld, IsUsable, way_true, way_mentions, IsChoice, IsTaken, IsChosen}
use Rattle.dnnf_compiler.proofs.MadeNodes.{adds_then, may_grow, get-push}
use Rattle.dnnf_compiler.proofs.Conjunctions.{each_more, all_same}

-- ---- the nodes to which numbers lead

pub length-taken : (below : List (Vec ℕ Global)) (numbers : List ℕ) → AreHeld below numbers → length (taken below numbers) ≡ length below
length-taken [] numbers held = refl
length-taken (level ∷ below) [] held = absurd held
length-taken (level ∷ below) (n ∷ numbers) held = grind (arith, length-taken below numbers held.1)

pub length-held : (below : List (Vec ℕ Global)) (numbers : List ℕ) → AreHeld below numbers → length below ≡ length numbers
length-held below numbers held = sym (AllZip-long (λ (level : Vec ℕ Global) (n : ℕ). n < length level.items) below numbers held)

module _ (old new : List Node) (g : Grows old new) (ks : List ℕ) (within : AllByRecursion (λ k. k < length old) ks) where
  pub within_grow : AllByRecursion (λ k. k < length new) ks
  within_grow = each_more (λ k. k < length old) (λ k. k < length new) ks (λ k h. let l = g.longer in omega arith) within

  pub truths_grow : (a : Assignment) → list_all (λ k. is_true new k a) ks ≡ list_all (λ k. is_true old k a) ks
  truths_grow a = all_same (λ k. is_true new k a) (λ k. is_true old k a) ks (λ k m. g.truth k a (each-at (λ k. k < length old) k ks within m))

  pub mentions_grow : (v : ℕ) → list_any (mentions new v) ks ≡ list_any (mentions old v) ks
  mentions_grow v = any_same (mentions new v) (mentions old v) ks (λ k m. g.variables k v (each-at (λ k. k < length old) k ks within m))

  pub apart_grow : AreApart old ks → AreApart new ks
  apart_grow apart v = ap at_most_one (map_same (mentions new v) (mentions old v) ks (λ k m. g.variables k v (each-at (λ k. k < length old) k ks within m))) ∙ apart v

pub usable_grows : (old new : List Node) (var : ℕ) (below : List (Vec ℕ Global)) (way : Option (List ℕ)) → Grows old new → IfSome way (IsUsable old var below) → IfSome way (IsUsable new var below)
usable_grows old new var below way g h = grind (arith, within_grow old new g, apart_grow old new g, mentions_grow old new g)

way_grows : (old new : List Node) (var : ℕ) (below : List (Vec ℕ Global)) (way : Option (List ℕ)) (a : Assignment) → Grows old new → IfSome way (IsUsable old var below) → way_true new a below way ≡ way_true old a below way
way_grows old new var below way a g h = grind (arith, truths_grow old new g)

names_grow : (old new : List Node) (var : ℕ) (below : List (Vec ℕ Global)) (way : Option (List ℕ)) (v : ℕ) → Grows old new → IfSome way (IsUsable old var below) → way_mentions new v below way ≡ way_mentions old v below way
names_grow old new var below way v g h = grind (arith, mentions_grow old new g)

-- ---- one bit

module _ (m : Maker) (var : ℕ) (bit : Bool) (below : List (Vec ℕ Global)) (numbers : List ℕ) (literal : ℕ) (is : IsUsable m.store.nodes var below numbers)
    (literal_in : literal < length m.store.nodes) (truth : (a : Assignment) → is_true m.store.nodes literal a ≡ same_bit bit (a var)) (variables : (v : ℕ) → mentions m.store.nodes v literal ≡ (var == v)) where
  abbrev kids : List ℕ
  kids = literal ∷ taken below numbers

  pub children_meetable : IsMaker m → m.store.made < MADE_LIMIT → AreMeetable m kids
  children_meetable maker few = grind (arith, nat_tests, maker, few, is, literal_in, variables, All-from_recursion (λ k. k < length m.store.nodes) kids, length-taken below numbers is.held, length-held below numbers is.held, at_most_one-from, at_most_one-none, list_any-map)

  module _ (new : Maker) (node : ℕ) (meet : IsMeet m new kids node) where
    adds : Adds m new 1 (1 + length below)
    adds = grind (arith, meet.adds, length-taken below numbers is.held)

    says : (a : Assignment) → is_true new.store.nodes node a ≡ (same_bit bit (a var) && list_all (λ k. is_true m.store.nodes k a) (taken below numbers))
    says a = grind (arith, meet.truth a, truth a)

    pub take_false : node ≡ new.no → IsTaken m new var bit below (Some numbers) None
    take_false e = grind (arith, adds, says, meet.adds.maker.no.truth)

    pub take_some : node ≢ new.no → IsTaken m new var bit below (Some numbers) (Some node)
    take_some other = grind (arith, nat_tests, adds, says, meet.within, meet.names other var, meet.silent, variables)

-- ---- both bits

pub choice_one : (old mid most new : Maker) (var : ℕ) (below : List (Vec ℕ Global)) (zero one : Option (List ℕ)) (first second : Option ℕ) (node : ℕ)
    → IfSome zero (IsUsable old.store.nodes var below) → IfSome one (IsUsable old.store.nodes var below)
    → IsTaken old mid var false below zero first → IsTaken mid most var true below one second → IsJoin most new first second node → IsChosen old new var below zero one node
choice_one old mid most new var below zero one first second node zero_usable one_usable off on join = grind (arith, zero_usable, one_usable, off, on, join, adds_then old mid most, adds_then old most new, may_grow mid.store.nodes most.store.nodes, way_grows old.store.nodes mid.store.nodes, names_grow old.store.nodes mid.store.nodes)

-- ---- all lists

-- the nodes of the first lists
abbrev pub AreFirstChoices : Maker → Maker → ℕ → List (Vec ℕ Global) → List (Option (List ℕ)) → List (Option (List ℕ)) → List ℕ → Type 0
AreFirstChoices old new var below zeros ones nodes = (j : ℕ) (zero one : Option (List ℕ)) (n : ℕ) → slice_get zeros j ≡ Some zero → slice_get ones j ≡ Some one → slice_get nodes j ≡ Some n
    → IsChoice old.store.nodes new.store.nodes var below zero one n

pub choices_more : (old mid new : Maker) (var : ℕ) (below : List (Vec ℕ Global)) (zeros ones : List (Option (List ℕ))) (nodes : List ℕ) (zero one : Option (List ℕ)) (node more kids : ℕ)
    → IfSome zero (IsUsable old.store.nodes var below) → IfSome one (IsUsable old.store.nodes var below)
    → slice_get zeros (length nodes) ≡ Some zero → slice_get ones (length nodes) ≡ Some one → Adds old mid more kids → IsChosen mid new var below zero one node
    → AreFirstChoices old mid var below zeros ones nodes → AreFirstChoices old new var below zeros ones (nodes ++ node ∷ [])
choices_more old mid new var below zeros ones nodes zero one node more kids h k at_zero at_one adds made first j z o n here there at =
    grind (arith, get-push nodes node n j at, way_grows old.store.nodes mid.store.nodes, names_grow old.store.nodes mid.store.nodes, adds.grows, h, k, made, first j z o n here there)
