-- Conjunctions of nodes.
use Rattle.std.proofs.Common.{◌≡◌, ◌≢◌, ℕ, ◌+◌, ◌<◌, ◌≤◌, Bool, not, ◌&&◌, List, [], ◌∷◌, ◌++◌, map, length, drop, get_or, refl, arith, inl, inr}
use Rattle.std.specs.Prelude.{◌==◌}
use Rattle.std.specs.List.{list_any, list_all, filter, AllByRecursion}
use Rattle.std.proofs.lemmas.List.{drop_more, append_assoc, nil_from_length}
use Rattle.std.proofs.lemmas.Bool.Decides.{nat_tests}
use Rattle.std.proofs.lemmas.List.Elements.{All-contains, All-from_recursion}
use Rattle.std.proofs.lemmas.List.Folds.{list_all-map}
use Rattle.std.proofs.lemmas.Option.{slice_get_within}
use Rattle.state_rules.specs.Assignments.{Assignment}
use Rattle.state_rules.specs.declared.nodes.NodeKind.TheVariants.{And}
use Rattle.state_rules.specs.Graphs.{Node, at_most_one, is_true, mentions}
use Rattle.state_rules.proofs.Lists.{list_any-map, length-filter-le}
use Rattle.state_rules.proofs.Members.{In}
use Rattle.node_store.specs.Stores.{Stored, IsStore, Makes, Means}
use Rattle.dnnf_compiler.specs.declared.maker.Maker.{Maker}
use Rattle.dnnf_compiler.specs.inner.Joining.{IsPlain}
use Rattle.dnnf_compiler.specs.inner.Making.{IsMaker, Adds}
use Rattle.dnnf_compiler.specs.inner.Meeting.{AreApart, IsMeet}
use Rattle.dnnf_compiler.proofs.MadeNodes.{grows_by, kept_in, adds_store}
use Rattle.dnnf_compiler.proofs.Bare.{bare_push}

-- ---- lists of nodes

pub each_more : {X : Type 0} (P Q : X → Type 0) (xs : List X) → ((x : X) → P x → Q x) → AllByRecursion P xs → AllByRecursion Q xs
each_more P Q [] h each = tt
each_more P Q (x ∷ xs) h each = (h x each.0, each_more P Q xs h each.1)

pub all_same : {X : Type 0} (f g : X → Bool) (xs : List X) → ((x : X) → In x xs → f x ≡ g x) → list_all f xs ≡ list_all g xs
all_same f g [] h = refl
all_same f g (x ∷ xs) h = λ j. h x (inl refl) j && all_same f g xs (λ y m. h y (inr m)) j

pub one : (xs : List ℕ) → length xs ≡ 1 → xs ≡ get_or xs 0 0 ∷ []
one [] h = absurd (omega arith)
one (x ∷ xs) h = grind (arith, nil_from_length)

-- ---- nodes that are always true are left out

abbrev pub keeps_of : Maker → ℕ → Bool
keeps_of m k = not (k == m.yes)

module _ (m : Maker) (is : IsMaker m) where
  abbrev its : List Node
  its = m.store.nodes

  all_kept : (a : Assignment) (kids : List ℕ) → list_all (λ k. is_true its k a) (filter (keeps_of m) kids) ≡ list_all (λ k. is_true its k a) kids
  all_kept a [] = refl
  all_kept a (k ∷ kids) = grind (arith, nat_tests, all_kept a kids)

  any_kept : (v : ℕ) (kids : List ℕ) → list_any (mentions its v) (filter (keeps_of m) kids) ≡ list_any (mentions its v) kids
  any_kept v [] = refl
  any_kept v (k ∷ kids) = grind (arith, nat_tests, any_kept v kids)

  one_kept : (v : ℕ) (kids : List ℕ) → at_most_one (map (mentions its v) (filter (keeps_of m) kids)) ≡ at_most_one (map (mentions its v) kids)
  one_kept v [] = refl
  one_kept v (k ∷ kids) = grind (arith, nat_tests, one_kept v kids, any_kept v kids, list_any-map, is.yes.variables v)

  -- ---- while children are read

  pub kept_more : (kids kept : List ℕ) (i k : ℕ) → i < length kids → k ≡ get_or kids i 0 → k ≢ m.yes → kept ++ filter (keeps_of m) (drop i kids) ≡ filter (keeps_of m) kids → (kept ++ k ∷ []) ++ filter (keeps_of m) (drop (i + 1) kids) ≡ filter (keeps_of m) kids
  kept_more kids kept i k low at e so_far = grind (arith, nat_tests, append_assoc, drop_more kids i 0 low)

  -- ---- what is made

  module _ (kids : List ℕ) where
    -- the children that are kept
    abbrev kept : List ℕ
    kept = filter (keeps_of m) kids

    pub kept_apart : AreApart its kids → AreApart its kept
    kept_apart apart v = grind (arith, one_kept v kids, apart v)

    -- what is made says what the kept nodes say
    meet_by : (new : Maker) (node : ℕ) → Adds m new 1 (length kids) → node < length new.store.nodes → (length kids ≤ 1 → Adds m new 0 0)
        → ((a : Assignment) → is_true new.store.nodes node a ≡ list_all (λ k. is_true its k a) kept) → ((v : ℕ) → mentions new.store.nodes v node ≡ list_any (mentions its v) kept) → IsMeet m new kids node
    meet_by new node adds within alone truth variables =
        let says : (a : Assignment) → is_true new.store.nodes node a ≡ list_all (λ k. is_true its k a) kids = λ a. grind (arith, truth a, all_kept a kids) in
        let names : (v : ℕ) → mentions new.store.nodes v node ≡ list_any (mentions its v) kids = λ v. grind (arith, variables v, any_kept v kids) in
        grind (arith, adds, within, alone)

    pub meet_none : kept ≡ [] → IsMeet m m kids m.yes
    meet_none empty = meet_by m m.yes (grind (arith, is)) is.yes.within (λ h. grind (arith, is)) (λ a. grind (arith, empty, is.yes)) (λ v. grind (arith, empty, is.yes))

    pub meet_one : (k : ℕ) → kept ≡ k ∷ [] → AllByRecursion (λ k. (k < length its) × IsPlain its k) kept → IsMeet m m kids k
    meet_one k one plain = meet_by m k (grind (arith, is)) (grind (arith, one, plain)) (λ h. grind (arith, is)) (λ a. grind (arith, one)) (λ v. grind (arith, one))

    pub meet_more : (s : Stored) (node : ℕ) → 2 ≤ length kept → AllByRecursion (λ k. (k < length its) × IsPlain its k) kept → Makes m.store s And kept node → Means its s.nodes And kept node → IsStore s
        → IsMeet m (record m { store = s }) kids node
    meet_more s node several plain makes means store = meet_by (record m { store = s }) node adds (slice_get_within s.nodes node itself makes.there) (λ h. absurd (omega (arith, length-filter-le (keeps_of m) kids)))
        (λ a. grind (arith, means, list_all-map)) (λ v. grind (arith, means, list_any-map)) where
          itself : Node
          itself = record { what = And; kids = kept }

          adds : Adds m (record m { store = s }) 1 (length kids)
          adds = grind (
            arith,
            makes,
            length-filter-le,
            adds_store m s (length kids) is store (kept_in its s.nodes itself makes.nodes)
                (bare_push m.store.vars its s.nodes itself is.store.nodes makes.nodes is.bare (λ k. All-contains (λ k. (k < length its) × IsPlain its k) kept k (All-from_recursion (λ k. (k < length its) × IsPlain its k) kept plain))) (grows_by its s.nodes And kept node makes.nodes means),
          )
