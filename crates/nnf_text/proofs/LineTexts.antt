-- The texts of lines, as they are written.
use Rattle.std.proofs.Common.{◌≡◌, ℕ, List, [], ◌∷◌, ◌++◌, map, length, codes, sym, ap, ◌∙◌, append_assoc, arith}
use Rattle.std.proofs.lemmas.Bool.Decides.{nat_tests}
use Rattle.std.specs.Prelude.{decimal}
use Rattle.std.specs.List.{flat_map}
use Rattle.std.proofs.lemmas.List.Folds.{flat_map-map}
use Rattle.text_rules.specs.Tokens.{spaced}
use Rattle.state_rules.specs.Graphs.{Node, edges}
use Rattle.state_rules.specs.declared.nodes.NodeKind.TheVariants.{And, Or}
use Rattle.diag_edge.proofs.Added.{spaced-first}
use Rattle.nnf_text.specs.WrittenGraphs.{child_words, kind_words, node_words, graph_text}

-- a word, numbers each after a space, and a line feed
pub listed-spaced : (w : List ℕ) (ns : List ℕ) → w ++ (flat_map (λ n. 32 ∷ decimal n) ns ++ 10 ∷ []) ≡ spaced (w ∷ map decimal ns)
listed-spaced w ns = ap (λ t. w ++ (t ++ 10 ∷ [])) (sym (flat_map-map (λ word. 32 ∷ word) decimal ns)) ∙ spaced-first w (map decimal ns)

counted-spaced : (w kids : List ℕ) → w ++ ((32 ∷ decimal (length kids)) ++ (flat_map (λ n. 32 ∷ decimal n) kids ++ 10 ∷ [])) ≡ spaced (w ∷ child_words kids)
counted-spaced w kids = grind (arith, nat_tests, append_assoc, listed-spaced)

pub and-spaced : (kids : List ℕ) → codes "A" ++ ((32 ∷ decimal (length kids)) ++ (flat_map (λ n. 32 ∷ decimal n) kids ++ 10 ∷ [])) ≡ spaced (kind_words And kids)
and-spaced kids = counted-spaced (codes "A") kids

pub or-spaced : (kids : List ℕ) → codes "O 0" ++ ((32 ∷ decimal (length kids)) ++ (flat_map (λ n. 32 ∷ decimal n) kids ++ 10 ∷ [])) ≡ spaced (kind_words Or kids)
or-spaced kids = ap (λ t. 79 ∷ 32 ∷ t) (counted-spaced (codes "0") kids)

-- the header of these numbers, and the lines of nodes
abbrev pub header : ℕ → ℕ → ℕ → List ℕ
header count kids vars = spaced (codes "nnf" ∷ decimal count ∷ decimal kids ∷ decimal vars ∷ [])

abbrev pub lines : List Node → List ℕ
lines nodes = flat_map (λ node. spaced (node_words node)) nodes

-- make the text of a graph
pub text-lines : (count kids vars : ℕ) (nodes : List Node) → count ≡ length nodes → kids ≡ edges nodes → header count kids vars ++ lines nodes ≡ graph_text (record { nodes = nodes; vars = vars })
text-lines count kids vars nodes e f = (λ i. header (e i) (f i) vars ++ sym (flat_map-map spaced node_words nodes) i)
