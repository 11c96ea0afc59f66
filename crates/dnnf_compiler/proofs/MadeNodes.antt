-- What a maker makes.
use Rattle.std.proofs.Common.{◌≡◌, ℕ, ◌+◌, ◌<◌, ◌≤◌, List, [], ◌∷◌, ◌++◌, length, Some, Option, arith, length-append}
use Rattle.std.specs.Prelude.{slice_get, IfSome, ◌⊎◌}
use Rattle.std.proofs.lemmas.Option.{slice_get_within}
use Rattle.state_rules.specs.Assignments.{Assignment}
use Rattle.state_rules.specs.declared.nodes.NodeKind.TheVariants.{And, Or}
use Rattle.state_rules.specs.Graphs.{Node}
use Rattle.state_rules.proofs.Lists.{slice_get-before}
use Rattle.node_store.specs.Stores.{Stored, IsStore, Makes, Means, AddsAtMost, HasNoBareChild}
use Rattle.dnnf_compiler.specs.declared.maker.Maker.{Maker}
use Rattle.dnnf_compiler.specs.inner.Joining.{Grows}
use Rattle.dnnf_compiler.specs.inner.Making.{IsMaker, Adds, may_be_true}
use Rattle.state_rules.specs.declared.nodes.NodeKind.{NodeKind}

-- ---- nodes stay

pub grows_by : (old new : List Node) (kind : NodeKind) (kids : List ℕ) (number : ℕ) → AddsAtMost old (record { what = kind; kids = kids }) new → Means old new kind kids number → Grows old new
grows_by old new kind kids number adds means = grind (arith, length-append)

pub kept_in : (old new : List Node) (node : Node) → AddsAtMost old node new → (k : ℕ) (n : Node) → slice_get old k ≡ Some n → slice_get new k ≡ Some n
kept_in old new node adds k n there = grind (arith, adds, slice_get-before)

pub new_maker : (s s' : Stored) (s0 : Stored) (top bottom : ℕ) → Makes s0 s And [] top → Means s0.nodes s.nodes And [] top → Makes s s' Or [] bottom → Means s.nodes s'.nodes Or [] bottom → IsStore s' → HasNoBareChild s'.nodes
    → IsMaker (record { store = s'; yes = top; no = bottom })
new_maker s s' s0 top bottom make_yes mean_yes make_no mean_no store bare = grind (arith, grows_by, slice_get_within, kept_in)

-- ---- nodes are added

pub adds_then : (old mid new : Maker) (more kids more' children' all all_children : ℕ) → Adds old mid more kids → Adds mid new more' children' → all ≡ more + more' → all_children ≡ kids + children' → Adds old new all all_children
adds_then old mid new more kids more' children' all all_children a b e f = grind arith

pub adds_store : (m : Maker) (s : Stored) (kids : ℕ) → IsMaker m → IsStore s → ((k : ℕ) (n : Node) → slice_get m.store.nodes k ≡ Some n → slice_get s.nodes k ≡ Some n) → HasNoBareChild s.nodes → Grows m.store.nodes s.nodes → s.vars ≡ m.store.vars → s.made ≤ m.store.made + 1 → s.handed ≤ m.store.handed + kids → Adds m (record m { store = s }) 1 kids
adds_store m s kids is store kept bare g vars made handed = grind arith

pub may_grow : (old new : List Node) (a : Assignment) (o : Option ℕ) → Grows old new → IfSome o (λ n. n < length old) → may_be_true new a o ≡ may_be_true old a o
may_grow old new a o g h = grind arith

pub get-push : {X : Type 0} (xs : List X) (y x : X) (i : ℕ) → slice_get (xs ++ y ∷ []) i ≡ Some x → ((i ≡ length xs) × (y ≡ x)) ⊎ (slice_get xs i ≡ Some x)
get-push [] y x i e = grind arith
get-push (z ∷ xs) y x i e = grind (arith, get-push xs y x)
