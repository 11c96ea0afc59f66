-- The literals of held parts.
use Rattle.std.proofs.Common.{◌≡◌, ℕ, suc, ◌+◌, ◌-◌, ◌<◌, ◌≤◌, Bool, true, false, ◌&&◌, ◌==◌, List, [], ◌∷◌, ◌++◌, map, length, Option, Some, None, get_or, refl, sym, ap, ◌∙◌, arith, ⊎_elim, append_assoc, length-append}
use Rattle.std.specs.List.{list_all, list_any, filter_map, enumerate_from, range_with_len, AllByRecursion}
use Rattle.std.proofs.lemmas.Bool.{or_cases, or_from, and_from, eqb-true, ne_eqb, le-leb}
use Rattle.std.proofs.lemmas.List.{get_or_at}
use Rattle.std.proofs.lemmas.List.Sums.{sum_by-cons}
use Rattle.state_rules.specs.Bits.{bit_in, same_bit}
use Rattle.state_rules.specs.Assignments.{Assignment}
use Rattle.state_rules.specs.Cases.{agrees}
use Rattle.state_rules.specs.declared.nodes.NodeKind.{NodeKind}
use Rattle.state_rules.specs.Graphs.{Node, literal_node, true_node, node_at, at_most_one, truth_by, mention_by, apart_at, nodes_fit, edges}
use Rattle.state_rules.proofs.NodeValues.{are_below, value_of, value_of-at}
use Rattle.state_rules.proofs.Children.{at_most_one-from}
use Rattle.projector.specs.Projecting.{held_literal}

-- the literals of parts that are numbered from `s` on
abbrev pub held_from : ℕ → List (Option Bool) → List Node
held_from s known = filter_map held_literal (enumerate_from s known)

pub length-held : (s : ℕ) (known : List (Option Bool)) → length (held_from s known) ≤ length known
length-held s [] = omega arith
length-held s (None ∷ known) = omega (arith, length-held (s + 1) known)
length-held s (Some ok ∷ known) = omega (arith, length-held (s + 1) known)

-- ---- they have no children

pub held-alone : (s : ℕ) (known : List (Option Bool)) → AllByRecursion (λ (node : Node). node.kids ≡ []) (held_from s known)
held-alone s [] = tt
held-alone s (None ∷ known) = held-alone (s + 1) known
held-alone s (Some ok ∷ known) = (refl, held-alone (s + 1) known)

pub held-edges : (s : ℕ) (known : List (Option Bool)) → edges (held_from s known) ≡ 0
held-edges s [] = refl
held-edges s (None ∷ known) = held-edges (s + 1) known
held-edges s (Some ok ∷ known) = omega (arith, sum_by-cons (λ (n : Node). length n.kids) (literal_node s ok) (held_from (s + 1) known), held-edges (s + 1) known)

pub held-apart : (f : ℕ → Bool) (s : ℕ) (known : List (Option Bool)) → AllByRecursion (λ (node : Node). apart_at f node.what node.kids ≡ true) (held_from s known)
held-apart f s [] = tt
held-apart f s (None ∷ known) = held-apart f (s + 1) known
held-apart f s (Some ok ∷ known) = (refl, held-apart f (s + 1) known)

pub held-fit : (parts own s : ℕ) (known : List (Option Bool)) → 1 ≤ s → s + length known ≤ parts + 1 → nodes_fit parts own (held_from s known) ≡ true
held-fit parts own s [] some few = refl
held-fit parts own s (None ∷ known) some few = held-fit parts own (s + 1) known (omega arith) (omega arith)
held-fit parts own s (Some ok ∷ known) some few =
    and_from _ _ (and_from _ _ (le-leb 1 s some) (le-leb s parts (omega arith))) (held-fit parts (own + 1) (s + 1) known (omega arith) (omega arith))

-- the values of nodes without children, between others
pub values-alone : (by : NodeKind → List Bool → Bool) (front middle back : List Node) → AllByRecursion (λ (node : Node). node.kids ≡ []) middle
    → map (value_of by (front ++ (middle ++ back))) (range_with_len (length front) (length middle)) ≡ map (λ node. by node.what []) middle
values-alone by front [] back alone = refl
values-alone by front (node ∷ middle) back alone =
    let all : List Node = front ++ (node ∷ (middle ++ back)) in
    let regrouped : (front ++ node ∷ []) ++ (middle ++ back) ≡ front ++ (node ∷ (middle ++ back)) = append_assoc front (node ∷ []) (middle ++ back) in
    let longer : length (front ++ node ∷ []) ≡ length front + 1 = length-append front (node ∷ []) in
    let there : node_at all (length front) ≡ node = get_or_at front node (middle ++ back) true_node (length front) refl in
    let none : (node_at all (length front)).kids ≡ [] = ap (λ (n : Node). n.kids) there ∙ alone.0 in
    let inside : length front < length all = omega (arith, length-append front (node ∷ (middle ++ back))) in
    let here : value_of by all (length front) ≡ by node.what [] = value_of-at by all (length front) inside (ap (are_below (length front)) none)
    ∙ (λ i. by (there i).what (map (value_of by all) (none i))) in
    (λ i. here i ∷ map (value_of by (sym regrouped i)) (range_with_len (sym longer i) (length middle)))
    ∙ ap (λ bs. by node.what [] ∷ bs) (values-alone by (front ++ node ∷ []) middle back alone.1)

-- ---- they are true if the bits agree

pub held-agrees : (a : Assignment) (s : ℕ) (known : List (Option Bool)) (bits : List Bool) → length known ≡ length bits → ((i : ℕ) → a (s + i) ≡ bit_in bits i)
    → list_all (λ b. b) (map (λ node. truth_by a node.what []) (held_from s known)) ≡ agrees known bits
held-agrees a s [] bits long same = refl
held-agrees a s (k ∷ known) [] long same = absurd (omega arith)
held-agrees a s (None ∷ known) (b ∷ bits) long same = held-agrees a (s + 1) known bits (omega arith) (λ i. let e : (s + 1) + i ≡ s + suc i = omega arith in ap a e ∙ same (suc i))
held-agrees a s (Some ok ∷ known) (b ∷ bits) long same =
    let here : s ≡ s + 0 = omega arith in
    let rest = held-agrees a (s + 1) known bits (omega arith) (λ i. let e : (s + 1) + i ≡ s + suc i = omega arith in ap a e ∙ same (suc i)) in
    (λ i. same_bit ok ((ap a here ∙ same 0) i) && rest i)

-- ---- they mention what is held, each once

abbrev pub held_mentions : ℕ → ℕ → List (Option Bool) → List Bool
held_mentions v s known = map (λ node. mention_by v node.what []) (held_from s known)

held-below : (v s : ℕ) (known : List (Option Bool)) → v < s → list_any (λ b. b) (held_mentions v s known) ≡ false
held-below v s [] h = refl
held-below v s (None ∷ known) h = held-below v (s + 1) known (omega arith)
held-below v s (Some ok ∷ known) h = or_from _ _ (ne_eqb s v (λ e. omega arith)) (held-below v (s + 1) known (omega arith))

-- at most one of them mentions a variable
pub held-once : (v s : ℕ) (known : List (Option Bool)) → at_most_one (held_mentions v s known) ≡ true
held-once v s [] = refl
held-once v s (None ∷ known) = held-once v (s + 1) known
held-once v s (Some ok ∷ known) =
    at_most_one-from (s == v) (held_mentions v (s + 1) known)
    (λ any. ne_eqb s v (λ e. let no : true ≡ false = sym any ∙ held-below v (s + 1) known (omega arith) in absurd (cc)))
    (held-once v (s + 1) known)

-- a variable that is held
pub record IsHeld (v s : ℕ) (known : List (Option Bool)) : Type 0 where
  pub from : s ≤ v
  pub to : v < s + length known
  pub ok : Bool
  pub is : get_or known (v - s) None ≡ Some ok

later_held : (v s : ℕ) (k : Option Bool) (known : List (Option Bool)) → IsHeld v (s + 1) known → IsHeld v s (k ∷ known)
later_held v s k known h = record {
  from = omega (arith, h.from);
  to = omega (arith, h.to);
  ok = h.ok;
  is = (let e : v - s ≡ suc (v - (s + 1)) = omega (arith, h.from) in ap (λ i. get_or (k ∷ known) i None) e ∙ h.is);
}

-- they mention held variables only
pub held-known : (v s : ℕ) (known : List (Option Bool)) → list_any (λ b. b) (held_mentions v s known) ≡ true → IsHeld v s known
held-known v s [] any = absurd (let no : false ≡ true = any in cc)
held-known v s (None ∷ known) any = later_held v s None known (held-known v (s + 1) known any)
held-known v s (Some ok ∷ known) any = ⊎_elim
    (λ here. let same = eqb-true s v here in record {
      from = omega arith;
      to = omega arith;
      ok = ok;
      is = (let e : v - s ≡ 0 = omega arith in ap (λ i. get_or (Some ok ∷ known) i None) e);
    })
    (λ later. later_held v s (Some ok) known (held-known v (s + 1) known later))
    (or_cases (s == v) (list_any (λ b. b) (held_mentions v (s + 1) known)) any)
