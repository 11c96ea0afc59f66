-- Marks of the nodes below a root.
use Rattle.std.proofs.Common.{◌≡◌, ℕ, zero, suc, ◌+◌, ◌<◌, Bool, true, List, [], ◌∷◌, ◌++◌, map, length, take, drop, get_or, Some, refl, arith}
use Rattle.std.specs.Prelude.{slice_get, ◌⊎◌}
use Rattle.std.proofs.lemmas.List.{take_all, append-nil}
use Rattle.std.proofs.lemmas.Option.{slice_get-map, slice_get-get_or}
use Rattle.std.proofs.Math.ListN.{drop_of_length-le, length-map}
use Rattle.state_rules.specs.Bits.{bit_in}
use Rattle.state_rules.specs.Graphs.{Node}
use Rattle.node_store.specs.declared.store.Kept.{Kept}
use Rattle.node_store.specs.inner.Keeping.{shown}
use Rattle.node_store.specs.inner.Freezing.{AreBefore, IsClosedFrom, IsChildOfMarked, Marks}

pub written_bits : (len : ℕ) (new old : List Bool) → length new ≡ length old → len ≡ length old → take len (new ++ drop (length new) old) ≡ new
written_bits len new old e f = grind (arith, drop_of_length-le, append-nil, take_all)

pub shown_at : (xs : List Kept) (i : ℕ) (x : Kept) → i < length xs → x ≡ get_or xs i x → slice_get (map shown xs) i ≡ Some (shown x)
shown_at xs i x h e = grind (arith, slice_get-map, slice_get-get_or)

pub the_at : (xs : List Node) (i : ℕ) → i < length xs → (x : Node) × (slice_get xs i ≡ Some x)
the_at [] i h = absurd (omega arith)
the_at (x ∷ xs) zero h = (x, refl)
the_at (x ∷ xs) (suc i) h = the_at xs i (omega arith)

pub length-shown : (xs : List Kept) → length (map shown xs) ≡ length xs
length-shown xs = length-map xs shown

-- marks are closed from the next lower node on
pub marks_more : (nodes : List Node) (old new : List Bool) (from at root : ℕ) (kids : List ℕ) (node : Node) → at + 1 ≡ from → slice_get nodes at ≡ Some node → kids ≡ node.kids → Marks old at kids new → IsClosedFrom from nodes old → AreBefore nodes → IsClosedFrom at nodes new
marks_more nodes old new from at root kids node e there same marks closed before_ i n le m f = grind arith

-- only the root and the children of marked nodes are marked
pub only_more : (nodes : List Node) (old new : List Bool) (at root : ℕ) (kids : List ℕ) (node : Node) → slice_get nodes at ≡ Some node → kids ≡ node.kids → Marks old at kids new
    → ((i : ℕ) → bit_in old i ≡ true → (i ≡ root) ⊎ IsChildOfMarked nodes old i) → (i : ℕ) → bit_in new i ≡ true → (i ≡ root) ⊎ IsChildOfMarked nodes new i
only_more nodes old new at root kids node there same marks only i m = grind arith

pub shown_get : (xs : List Kept) (i : ℕ) (r : Kept) → i < length xs → slice_get (map shown xs) i ≡ Some (shown (get_or xs i r))
shown_get xs i r h = grind (arith, slice_get-map, slice_get-get_or)
