-- Nodes of kinds and children.
use Rattle.std.proofs.Common.{◌≡◌, ℕ, zero, suc, ◌<◌, false, List, [], ◌∷◌, ◌++◌, length, get_or, refl, ap, arith}
use Rattle.std.specs.List.{sum_by}
use Rattle.std.proofs.lemmas.List.Sums.{sum_by-cons}
use Rattle.state_rules.specs.declared.nodes.NodeKind.{NodeKind}
use Rattle.state_rules.specs.declared.nodes.NodeKind.TheVariants.{Literal}
use Rattle.state_rules.specs.Graphs.{Node, node_at, edges}
use Rattle.node_store.specs.Flat.{nodes_of}

pub length-nodes_of : (kinds : List NodeKind) (lists : List (List ℕ)) → length lists ≡ length kinds → length (nodes_of kinds lists) ≡ length kinds
length-nodes_of [] lists e = refl
length-nodes_of (kind ∷ kinds) [] e = absurd (omega arith)
length-nodes_of (kind ∷ kinds) (kids ∷ lists) e = ap suc (length-nodes_of kinds lists (omega arith))

pub nodes_of-at : (kinds : List NodeKind) (lists : List (List ℕ)) (at : ℕ) → length lists ≡ length kinds → at < length kinds
    → node_at (nodes_of kinds lists) at ≡ record { what = get_or kinds at (Literal false 0); kids = get_or lists at [] }
nodes_of-at [] lists at e h = absurd (omega arith)
nodes_of-at (kind ∷ kinds) [] at e h = absurd (omega arith)
nodes_of-at (kind ∷ kinds) (kids ∷ lists) zero e h = refl
nodes_of-at (kind ∷ kinds) (kids ∷ lists) (suc at) e h = nodes_of-at kinds lists at (omega arith) (omega arith)

pub nodes_of-push : (kinds : List NodeKind) (lists : List (List ℕ)) (kind : NodeKind) (kids : List ℕ) → length lists ≡ length kinds
    → nodes_of (kinds ++ kind ∷ []) (lists ++ kids ∷ []) ≡ nodes_of kinds lists ++ record { what = kind; kids = kids } ∷ []
nodes_of-push [] [] kind kids e = refl
nodes_of-push [] (first ∷ lists) kind kids e = absurd (omega arith)
nodes_of-push (first ∷ kinds) [] kind kids e = absurd (omega arith)
nodes_of-push (first ∷ kinds) (those ∷ lists) kind kids e = ap (λ ns. record { what = first; kids = those } ∷ ns) (nodes_of-push kinds lists kind kids (omega arith))

pub edges-nodes_of : (kinds : List NodeKind) (lists : List (List ℕ)) → length lists ≡ length kinds → edges (nodes_of kinds lists) ≡ sum_by length lists
edges-nodes_of [] [] e = refl
edges-nodes_of [] (kids ∷ lists) e = absurd (omega arith)
edges-nodes_of (kind ∷ kinds) [] e = absurd (omega arith)
edges-nodes_of (kind ∷ kinds) (kids ∷ lists) e =
    omega (
      arith,
      sum_by-cons (λ (n : Node). length n.kids) (record { what = kind; kids = kids }) (nodes_of kinds lists),
      sum_by-cons length kids lists,
      edges-nodes_of kinds lists (omega arith),
    )
