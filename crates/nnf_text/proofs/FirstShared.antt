-- The first shared variable is the one that is reported.
use Rattle.std.proofs.Common.{◌≡◌, ℕ, zero, suc, ◌+◌, ◌*◌, ◌<◌, ◌≤◌, Bool, true, false, List, [], ◌∷◌, length, Option, Some, None, Ok, Err, refl, sym, ◌∙◌, arith}
use Rattle.std.proofs.lemmas.Bool.Decides.{nat_tests}
use Rattle.std.specs.List.{find, filter_map, enumerate_from, range_with_len, AllByRecursion}
use Rattle.std.proofs.lemmas.Bool.{cases_Bool, cases_lt, not-false}
use Rattle.state_rules.specs.Graphs.{Node, Graph, node_at, mentions, apart_at, nodes_fit, Decomposable, shares}
use Rattle.state_rules.proofs.Mentions.{IsUsed-shared, IsUsed-range}
use Rattle.nnf_text.specs.declared.checking.TheConstants.{BITS_LIMIT}
use Rattle.nnf_text.specs.GraphTexts.{Shared, read_unless, node_shared, checked}
use Rattle.nnf_text.specs.inner.Sharing.{AreVariables, first_of, FirstOf}
use Rattle.nnf_text.proofs.Options.{none≢some}
use Rattle.nnf_text.proofs.Sparse.{Rises-from, find-sparse}

-- ---- all variables, by those that literals have

module _ (vars : ℕ) (nodes : List Node) (variables : List ℕ) (fit : nodes_fit vars 0 nodes ≡ true) (are : AreVariables nodes variables) where
  -- what is shared is in range
  in_range : (k v : ℕ) → shares nodes (node_at nodes k) v ≡ true → v < 0 + (vars + 1)
  in_range k v shared = let range = IsUsed-range vars nodes v fit (IsUsed-shared nodes (node_at nodes k) v shared) in omega (arith, range.high)

  first_of-all : (k : ℕ) → first_of nodes variables k ≡ first_of nodes (range_with_len 1 vars) k
  first_of-all k = grind (
    arith,
    nat_tests,
    cases_Bool (shares nodes (node_at nodes k) 0),
    IsUsed-range vars nodes 0 fit,
    IsUsed-shared nodes (node_at nodes k) 0,
    find-sparse (shares nodes (node_at nodes k)) variables 0 (vars + 1) (Rises-from variables are.rise) (in_range k)
        (λ v le shared. let used = IsUsed-shared nodes (node_at nodes k) v shared in are.all used.at v used.positive used.inside used.literal),
  )

  pub FirstOf-all : (found : Option (ℕ × ℕ)) → FirstOf nodes variables found → FirstOf nodes (range_with_len 1 vars) found
  FirstOf-all None none = λ k h. sym (first_of-all k) ∙ none k h
  FirstOf-all (Some n) first = record {
    inside = first.inside;
    found = sym (first_of-all n.0) ∙ first.found;
    before = λ k h. sym (first_of-all k) ∙ first.before k h;
  }

-- ---- the refusals of a graph

none-shared : (graph : Graph) (own : ℕ) (nodes : List Node) → ((k : ℕ) → k < length nodes → find (shares graph.nodes (node_at nodes k)) (range_with_len 1 graph.vars) ≡ None) → filter_map (node_shared graph) (enumerate_from own nodes) ≡ []
none-shared graph own [] none = refl
none-shared graph own (node ∷ nodes) none = grind (arith, none 0, none-shared graph (own + 1) nodes (λ k h. none (suc k) (omega arith)))

first-refused : (graph : Graph) (own : ℕ) (nodes : List Node) (node var : ℕ) → node < length nodes → find (shares graph.nodes (node_at nodes node)) (range_with_len 1 graph.vars) ≡ Some var
    → ((k : ℕ) → k < node → find (shares graph.nodes (node_at nodes k)) (range_with_len 1 graph.vars) ≡ None)
    → read_unless graph (filter_map (node_shared graph) (enumerate_from own nodes)) ≡ Err (Shared (own + node) var)
first-refused graph own [] node var inside found before = absurd (omega arith)
first-refused graph own (n ∷ nodes) zero var inside found before = grind (arith, nat_tests)
first-refused graph own (n ∷ nodes) (suc node) var inside found before = grind (arith, before 0, first-refused graph (own + 1) nodes node var (omega arith) found (λ k h. before (suc k) (omega arith)))

-- ---- a graph without any

passed_over : (p : ℕ → Bool) (start len : ℕ) → find p (range_with_len start len) ≡ None → (v : ℕ) → start ≤ v → v < start + len → p v ≡ false
passed_over p start zero e v low high = absurd (omega arith)
passed_over p start (suc len) e v low high = grind (arith, nat_tests, p, none≢some, cases_lt, passed_over p (start + 1) len)

all_at : (P : Node → Type 0) (nodes : List Node) → ((k : ℕ) → k < length nodes → P (node_at nodes k)) → AllByRecursion P nodes
all_at P [] each = tt
all_at P (node ∷ nodes) each = (each 0 (omega arith), all_at P nodes (λ k h. each (suc k) (omega arith)))

module _ (vars : ℕ) (nodes : List Node) (fit : nodes_fit vars 0 nodes ≡ true) (none : FirstOf nodes (range_with_len 1 vars) None) where
  none_at : (v k : ℕ) → k < length nodes → shares nodes (node_at nodes k) v ≡ false
  none_at v k h = grind (arith, none k h, IsUsed-range vars nodes v fit, IsUsed-shared nodes (node_at nodes k) v, passed_over (shares nodes (node_at nodes k)) 1 vars)

  pub Decomposable-none : Decomposable nodes
  Decomposable-none v = all_at (λ (n : Node). apart_at (mentions nodes v) n.what n.kids ≡ true) nodes (λ k h. not-false _ (none_at v k h))

-- ---- a check

module _ (vars : ℕ) (nodes : List Node) (small : length nodes * vars ≤ BITS_LIMIT) where
  abbrev graph : Graph
  graph = record { nodes = nodes; vars = vars }

  pub checked-none : FirstOf nodes (range_with_len 1 vars) None → checked graph ≡ Ok graph
  checked-none none = grind (arith, nat_tests, small, none-shared graph 0 nodes none)

  pub checked-shared : (node var : ℕ) → FirstOf nodes (range_with_len 1 vars) (Some (node, var)) → checked graph ≡ Err (Shared node var)
  checked-shared node var first = grind (arith, nat_tests, small, first-refused graph 0 nodes node var first.inside first.found first.before)
