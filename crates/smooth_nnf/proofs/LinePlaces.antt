-- The places of the lines of nodes, node by node.
use Rattle.std.proofs.Common.{◌≡◌, ℕ, zero, suc, ◌+◌, ◌<◌, ◌≤◌, cond, ◌==◌, List, [], ◌∷◌, ◌++◌, map, length, take, get_or, Option, sym, ap, ◌∙◌, arith}
use Rattle.std.proofs.lemmas.Bool.Decides.{nat_tests}
use Rattle.std.proofs.lemmas.Bool.{cond-true, eq-eqb, ne_eqb, cases_eq}
use Rattle.std.proofs.lemmas.List.Filters.{length-filter_more}
use Rattle.std.proofs.lemmas.List.Sums.{sum_by-cons}
use Rattle.state_rules.proofs.Lists.{length-filter-le}
use Rattle.state_rules.specs.Graphs.{Node, node_at, edges}
use Rattle.minimiser.specs.Costs.{cost_at}
use Rattle.state_rules.specs.Numbers.{cost_in}
use Rattle.minimiser.proofs.Sums.{cost_at-map, cost_in-some}
use Rattle.smooth_nnf.specs.Layouts.{costs_just, cheapest_children, lines_to, own_lines}
use Rattle.smooth_nnf.specs.inner.Drawings.{lines_after}

-- ---- children with a cost

pub just-stored : (cost n : ℕ) → (cost ≡ 4294967295 → ⊥) → costs_just cost (cost_in n) ≡ (n == cost)
just-stored cost n some = grind (arith, nat_tests, cases_eq, cond-true, eq-eqb, ne_eqb, some, cost_in-some)

cheapest-more : (values kids : List ℕ) (cost i count : ℕ) → i < length kids → get_or kids i 0 < length values → (cost ≡ 4294967295 → ⊥) → count ≡ length (cheapest_children (map cost_in values) cost (take i kids))
    → count + cond (get_or values (get_or kids i 0) 0 == cost) 1 0 ≡ length (cheapest_children (map cost_in values) cost (take (i + 1) kids))
cheapest-more values kids cost i count lt inside some is =
    grind (arith, nat_tests, length-filter_more (λ child. costs_just cost (cost_at (map cost_in values) child)) kids i 0 lt, cost_at-map values (get_or kids i 0) inside, just-stored cost (get_or values (get_or kids i 0) 0) some)

module _ (values kids : List ℕ) (cost i count : ℕ) (lt : i < length kids) (inside : get_or kids i 0 < length values) (some : cost ≡ 4294967295 → ⊥) (is : count ≡ length (cheapest_children (map cost_in values) cost (take i kids))) where
  pub one-cheapest : get_or values (get_or kids i 0) 0 ≡ cost → count + 1 ≡ length (cheapest_children (map cost_in values) cost (take (i + 1) kids))
  one-cheapest hit = ap (λ b. count + cond b 1 0) (sym (eq-eqb (get_or values (get_or kids i 0) 0) cost hit)) ∙ cheapest-more values kids cost i count lt inside some is

  pub none-cheapest : (get_or values (get_or kids i 0) 0 ≡ cost → ⊥) → count ≡ length (cheapest_children (map cost_in values) cost (take (i + 1) kids))
  none-cheapest miss = grind (arith, nat_tests, cheapest-more values kids cost i count lt inside some is, miss)

-- ---- lines

pub lines_to-le : (least : List (Option ℕ)) (node : Node) (o : Option ℕ) → lines_to least node o ≤ length node.kids
lines_to-le least node o = grind (arith, nat_tests, length-filter-le)

module _ (least : List (Option ℕ)) where
  own_lines-next : (line number : ℕ) (nodes : List Node) (i : ℕ) → i < length nodes
      → own_lines least line number (take (suc i) nodes) ≡ own_lines least line number (take i nodes) ++ (lines_after least line number (take i nodes) + lines_to least (node_at nodes i) (cost_at least (number + i))) ∷ []
  own_lines-next line number [] i lt = absurd (omega arith)
  own_lines-next line number (node ∷ nodes) zero lt = let e : number ≡ number + 0 = omega arith in ap (λ n. (line + lines_to least node (cost_at least n)) ∷ []) e
  own_lines-next line number (node ∷ nodes) (suc i) lt = grind (arith, nat_tests, own_lines-next (line + lines_to least node (cost_at least number) + 1) (number + 1) nodes i)

  lines_after-next : (line number : ℕ) (nodes : List Node) (i : ℕ) → i < length nodes
      → lines_after least line number (take (suc i) nodes) ≡ lines_after least line number (take i nodes) + lines_to least (node_at nodes i) (cost_at least (number + i)) + 1
  lines_after-next line number [] i lt = absurd (omega arith)
  lines_after-next line number (node ∷ nodes) zero lt = let e : number ≡ number + 0 = omega arith in ap (λ n. line + lines_to least node (cost_at least n) + 1) e
  lines_after-next line number (node ∷ nodes) (suc i) lt = grind (arith, nat_tests, lines_after-next (line + lines_to least node (cost_at least number) + 1) (number + 1) nodes i)

  -- one more of the first nodes
  module _ (line : ℕ) (nodes : List Node) (i : ℕ) (lt : i < length nodes) where
    pub own_lines-more : own_lines least line 0 (take (i + 1) nodes) ≡ own_lines least line 0 (take i nodes) ++ (lines_after least line 0 (take i nodes) + lines_to least (node_at nodes i) (cost_at least i)) ∷ []
    own_lines-more = grind (arith, nat_tests, own_lines-next line 0 nodes i lt)

    pub lines_after-more : lines_after least line 0 (take (i + 1) nodes) ≡ lines_after least line 0 (take i nodes) + lines_to least (node_at nodes i) (cost_at least i) + 1
    lines_after-more = grind (arith, nat_tests, lines_after-next line 0 nodes i lt)

  -- lines fit
  pub lines_after-le : (line number : ℕ) (nodes : List Node) (i : ℕ) → lines_after least line number (take i nodes) ≤ line + length nodes + edges nodes
  lines_after-le line number nodes zero = omega arith
  lines_after-le line number [] (suc i) = omega arith
  lines_after-le line number (node ∷ nodes) (suc i) = omega (
    arith,
    lines_after-le (line + lines_to least node (cost_at least number) + 1) (number + 1) nodes i,
    lines_to-le least node (cost_at least number),
    sum_by-cons (λ (n : Node). length n.kids) node nodes,
  )

  pub line-fits : (line : ℕ) (nodes : List Node) (i : ℕ) → i < length nodes → lines_after least line 0 (take i nodes) + lines_to least (node_at nodes i) (cost_at least i) + 1 ≤ line + length nodes + edges nodes
  line-fits line nodes i lt = omega (arith, lines_after-more line nodes i lt, lines_after-le line 0 nodes (i + 1))
