-- The lines of a projection, as they are written.
use Rattle.std.proofs.Common.{◌≡◌, ℕ, zero, suc, ◌+◌, ◌-◌, ◌<◌, Bool, false, not, ◌==◌, cond, List, [], ◌∷◌, ◌++◌, map, length, take, get_or, Option, Some, None, refl, sym, ap, ◌∙◌, arith, append-nil, length-append}
use Rattle.std.specs.Prelude.{decimal, count_by}
use Rattle.std.specs.List.{flat_map, enumerate_from, range_with_len}
use Rattle.std.proofs.lemmas.Bool.{ne_eqb}
use Rattle.std.proofs.lemmas.List.{length-map, get_or-map}
use Rattle.std.proofs.lemmas.List.Sums.{sum_by-cons, sum_by-append}
use Rattle.std.proofs.lemmas.List.Folds.{flat_map-map}
use Rattle.std.proofs.lemmas.List.Concat.{flat_map-append}
use Rattle.std.proofs.lemmas.List.FromFn.{length-range_with_len, get_or-enumerate_from}
use Rattle.text_rules.specs.Tokens.{spaced}
use Rattle.state_rules.specs.declared.nodes.NodeKind.{NodeKind}
use Rattle.state_rules.specs.Graphs.{Node, Graph, literal_node, edges}
use Rattle.nnf_text.specs.WrittenGraphs.{kind_words, node_words}
use Rattle.nnf_text.proofs.LineTexts.{header, lines, text-lines, and-spaced}
use Rattle.conditioner.specs.Evidence.{known_of, known}
use Rattle.projector.specs.Projecting.{projected_kind, projected_node, held_literals, root_with, projection, projected_text}
use Rattle.projector.specs.inner.Lines.{held_line}
use Rattle.projector.proofs.HeldLiterals.{held_from, held-edges}

-- ---- the lines of held literals

held-lines : (s : ℕ) (known : List (Option Bool)) → lines (held_from s known) ≡ flat_map held_line (enumerate_from s known)
held-lines s [] = refl
held-lines s (None ∷ known) = held-lines (s + 1) known
held-lines s (Some ok ∷ known) = ap (λ t. spaced (node_words (literal_node s ok)) ++ t) (held-lines (s + 1) known)

-- the line at a place
pub held_line-at : (health : List ℕ) (i part : ℕ) (k : Option Bool) → i < length health → part ≡ i + 1 → k ≡ known_of (get_or health i 0)
    → held_line (part, k) ≡ held_line (get_or (enumerate_from 1 (known health)) i (0, None))
held_line-at health i part k lt p e =
    let inside : i < length (known health) = omega (arith, length-map health known_of) in
    let same : part ≡ 1 + i = omega arith in
    let is : k ≡ get_or (known health) i None = e ∙ sym (get_or-map known_of health i 0 None lt) in
    ap held_line ((λ j. (same j, is j)) ∙ sym (get_or-enumerate_from 1 (known health) i (0, None) inside))

-- whether something is known, as a number
abbrev one_if_known : ℕ → ℕ
one_if_known word = cond (not (word == 0)) 1 0

held-count : (s : ℕ) (health : List ℕ) → length (held_from s (known health)) ≡ count_by (λ word. not (word == 0)) health
held-count s [] = refl
held-count s (zero ∷ health) =
    let none : 0 + count_by (λ word. not (word == 0)) health ≡ count_by (λ word. not (word == 0)) health = omega arith in
    held-count (s + 1) health ∙ sym (sum_by-cons one_if_known zero health ∙ none)
held-count s (suc zero ∷ health) =
    let one : 1 + count_by (λ word. not (word == 0)) health ≡ suc (count_by (λ word. not (word == 0)) health) = omega arith in
    ap suc (held-count (s + 1) health) ∙ sym (sum_by-cons one_if_known (suc zero) health ∙ one)
held-count s (suc (suc n) ∷ health) =
    let one : 1 + count_by (λ word. not (word == 0)) health ≡ suc (count_by (λ word. not (word == 0)) health) = omega arith in
    let some : (suc (suc n) == 0) ≡ false = ne_eqb (suc (suc n)) 0 (λ e. omega arith) in
    ap suc (held-count (s + 1) health)
    ∙ sym (sum_by-cons one_if_known (suc (suc n)) health ∙ (λ i. cond (not (some i)) 1 0 + count_by (λ word. not (word == 0)) health) ∙ one)

-- ---- the line of the root

-- its children are one after the other
root-kids : (nodes held : ℕ) → 0 < nodes → range_with_len (nodes - 1) (held + 1) ≡ (nodes - 1) ∷ range_with_len nodes held
root-kids nodes held some =
    let more : held + 1 ≡ suc held = omega arith in
    let next : (nodes - 1) + 1 ≡ nodes = omega arith in
    ap (range_with_len (nodes - 1)) more ∙ ap (λ n. (nodes - 1) ∷ range_with_len n held) next

pub root-text : (nodes held : ℕ) → 0 < nodes
    → 65 ∷ ((32 ∷ decimal (held + 1)) ++ (flat_map (λ n. 32 ∷ decimal n) (range_with_len (nodes - 1) (held + 1)) ++ 10 ∷ [])) ≡ spaced (node_words (root_with nodes held))
root-text nodes held some =
    let long : held + 1 ≡ length ((nodes - 1) ∷ range_with_len nodes held) = omega (arith, length-range_with_len nodes held) in
    (λ i. 65 ∷ ((32 ∷ decimal (long i)) ++ (flat_map (λ n. 32 ∷ decimal n) (root-kids nodes held some i) ++ 10 ∷ []))) ∙ and-spaced ((nodes - 1) ∷ range_with_len nodes held)

-- ---- the line of a node

pub projected-line : (evidence : List ℕ) (parts : ℕ) (node : Node) (kind become : NodeKind) (kids : List ℕ) → become ≡ projected_kind evidence parts kind → kind ≡ node.what → kids ≡ node.kids
    → spaced (kind_words become kids) ≡ spaced (node_words (projected_node evidence parts node))
projected-line evidence parts node kind become kids b k s = (λ i. spaced (kind_words ((b ∙ ap (projected_kind evidence parts) k) i) (s i)))

-- ---- the whole text

-- children stay, and so does their number
projected-edges : (evidence : List ℕ) (parts : ℕ) (nodes : List Node) → edges (map (projected_node evidence parts) nodes) ≡ edges nodes
projected-edges evidence parts [] = refl
projected-edges evidence parts (node ∷ nodes) =
    sum_by-cons (λ (n : Node). length n.kids) (projected_node evidence parts node) (map (projected_node evidence parts) nodes)
    ∙ ap (λ n. length node.kids + n) (projected-edges evidence parts nodes)
    ∙ sym (sum_by-cons (λ (n : Node). length n.kids) node nodes)

abbrev body_lines : Graph → List ℕ → ℕ → List ℕ
body_lines graph evidence parts = flat_map (λ node. spaced (node_words (projected_node evidence parts node))) graph.nodes

abbrev end_lines : ℕ → List ℕ → ℕ → List ℕ
end_lines nodes health held = flat_map held_line (enumerate_from 1 (known health)) ++ spaced (node_words (root_with nodes held))

module _ (graph : Graph) (evidence : List ℕ) (parts : ℕ) where
  abbrev front : List Node
  front = map (projected_node evidence parts) graph.nodes

  abbrev held : List Node
  held = held_literals evidence parts

  abbrev root : Node
  root = root_with (length graph.nodes) (length held)

  all-length : length (projection graph evidence parts).nodes ≡ length graph.nodes + length held + 1
  all-length = omega (arith, length-append front (held ++ root ∷ []), length-append held (root ∷ []), length-map graph.nodes (projected_node evidence parts))

  all-edges : edges (projection graph evidence parts).nodes ≡ edges graph.nodes + length held + 1
  all-edges = omega (
    arith,
    sum_by-append (λ (n : Node). length n.kids) front (held ++ root ∷ []),
    sum_by-append (λ (n : Node). length n.kids) held (root ∷ []),
    sum_by-cons (λ (n : Node). length n.kids) root [],
    projected-edges evidence parts graph.nodes,
    held-edges 1 (known (take parts evidence)),
    length-range_with_len (length graph.nodes) (length held),
  )

  all-lines : body_lines graph evidence parts ++ end_lines (length graph.nodes) (take parts evidence) (length held) ≡ lines (projection graph evidence parts).nodes
  all-lines = sym (
      flat_map-append (λ node. spaced (node_words node)) front (held ++ root ∷ [])
      ∙ (λ i. flat_map-map (λ node. spaced (node_words node)) (projected_node evidence parts) graph.nodes i ++ flat_map-append (λ node. spaced (node_words node)) held (root ∷ []) i)
      ∙ (λ i. body_lines graph evidence parts ++ (held-lines 1 (known (take parts evidence)) i ++ append-nil (spaced (node_words root)) i))
      )

  -- what is written is the projected text
  pub written : (count kids more : ℕ) → more ≡ count_by (λ word. not (word == 0)) (take parts evidence) → count ≡ length graph.nodes + more + 1 → kids ≡ edges graph.nodes + more + 1
      → header count kids parts ++ (body_lines graph evidence parts ++ end_lines (length graph.nodes) (take parts evidence) more) ≡ projected_text graph evidence parts
  written count kids more m e f =
      let same : more ≡ length held = m ∙ sym (held-count 1 (take parts evidence)) in
      (λ i. header count kids parts ++ (body_lines graph evidence parts ++ end_lines (length graph.nodes) (take parts evidence) (same i)))
      ∙ ap (λ t. header count kids parts ++ t) all-lines
      ∙ text-lines count kids parts (projection graph evidence parts).nodes (e ∙ (λ i. length graph.nodes + same i + 1) ∙ sym all-length) (f ∙ (λ i. edges graph.nodes + same i + 1) ∙ sym all-edges)
