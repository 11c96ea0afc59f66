-- No constant is a child.
use Rattle.std.proofs.Common.{◌≡◌, ◌≢◌, ℕ, zero, suc, ◌+◌, ◌<◌, true, false, List, [], ◌∷◌, ◌++◌, map, length, Some, arith, append_assoc}
use Rattle.std.specs.Prelude.{slice_get, Contains, ◌==◌}
use Rattle.std.proofs.lemmas.List.{nil_from_length}
use Rattle.std.proofs.lemmas.List.Elements.{All-contains}
use Rattle.std.proofs.lemmas.Option.{slice_get_within}
use Rattle.state_rules.specs.declared.nodes.NodeKind.{NodeKind}
use Rattle.state_rules.specs.declared.nodes.NodeKind.TheVariants.{Or}
use Rattle.state_rules.specs.Graphs.{Node, literal_node, true_node, mention_by, mentions, AreNodes, false_node}
use Rattle.state_rules.proofs.NodeValues.{value_of-get}
use Rattle.state_rules.proofs.NodesFit.{fits-get}
use Rattle.node_store.specs.Stores.{Stored, IsStore, Makes, Means, AddsAtMost, literals, is_bare, HasNoBareChild}
use Rattle.node_store.proofs.NodeCopies.{before}
use Rattle.dnnf_compiler.specs.declared.maker.Maker.{Maker}
use Rattle.dnnf_compiler.specs.inner.Joining.{IsPlain}
use Rattle.dnnf_compiler.specs.inner.Making.{IsMaker, IsJoin}
use Rattle.dnnf_compiler.proofs.MadeNodes.{grows_by, kept_in, adds_store, get-push}

-- ---- a node that mentions a variable is no constant

silent : (nodes : List Node) (v : ℕ) (what : NodeKind) (ks : List ℕ) → is_bare what ks ≡ true → mention_by v what (map (mentions nodes v) ks) ≡ false
silent nodes v what ks e = grind (arith, nil_from_length)

pub named_plain : (vars : ℕ) (nodes : List Node) (k v : ℕ) → AreNodes vars nodes → mentions nodes v k ≡ true → IsPlain nodes k
named_plain vars nodes k v are named = grind (arith, value_of-get (mention_by v) nodes k, fits-get vars nodes k, silent nodes v)

-- each node except `yes` and `no` is no constant
pub other_plain : (m : Maker) → IsMaker m → (k : ℕ) → k ≢ m.yes → k ≢ m.no → IsPlain m.store.nodes k
other_plain m is k not_yes not_no node there = grind (arith, is.store.once k m.yes true_node, is.store.once k m.no false_node, is.yes_node, is.no_node, nil_from_length)

-- ---- one more node

pub bare_push : (vars : ℕ) (old new : List Node) (node : Node) → AreNodes vars old → AddsAtMost old node new → HasNoBareChild old → ((k : ℕ) → Contains node.kids k → (k < length old) × IsPlain old k) → HasNoBareChild new
bare_push vars old new node are adds none plain parent number n child there has child_there =
    grind (arith, adds, get-push old node n parent, get-push old node child number, none parent number n child, plain number, before vars old are parent n, All-contains (λ k. k < parent) n.kids number, slice_get_within old parent n)

-- ---- at the beginning no node has a child

literals_childless : (n i : ℕ) (node : Node) → slice_get (literals n) i ≡ Some node → node.kids ≡ []
literals_childless zero i node there = absurd (let never : ⊥ = cc in never)
literals_childless (suc n) i node there =
    grind (arith, append_assoc (literals n) (literal_node (n + 1) true ∷ []) (literal_node (n + 1) false ∷ []), get-push (literals n ++ literal_node (n + 1) true ∷ []) (literal_node (n + 1) false) node i, get-push (literals n) (literal_node (n + 1) true) node i, literals_childless n i node)

pub first_bare : (vars : ℕ) (nodes mid new : List Node) (a b : Node) → nodes ≡ literals vars → AddsAtMost nodes a mid → a.kids ≡ [] → AddsAtMost mid b new → b.kids ≡ [] → HasNoBareChild new
first_bare vars nodes mid new a b is one e two f parent number n child there has = grind (arith, one, two, get-push mid b n parent, get-push nodes a n parent, literals_childless vars parent n)

-- ---- one of two

pub join_both : (m : Maker) (s : Stored) (first second node : ℕ) → IsMaker m → first < length m.store.nodes → second < length m.store.nodes → IsPlain m.store.nodes first → IsPlain m.store.nodes second
    → Makes m.store s Or (first ∷ second ∷ []) node → Means m.store.nodes s.nodes Or (first ∷ second ∷ []) node → IsStore s → IsJoin m (record m { store = s }) (Some first) (Some second) node
join_both m s first second node is first_in second_in first_plain second_plain makes means store =
    grind (arith, adds_store m s 2 is store (kept_in m.store.nodes s.nodes either makes.nodes) bare (grows_by m.store.nodes s.nodes Or either.kids node makes.nodes means), slice_get_within s.nodes node) where
      either : Node
      either = record { what = Or; kids = first ∷ second ∷ [] }

      bare : HasNoBareChild s.nodes
      bare = bare_push m.store.vars m.store.nodes s.nodes either is.store.nodes makes.nodes is.bare (λ k. grind arith)
