-- Graphs of literal nodes, And nodes and Or nodes. Children are earlier nodes.
use Rattle.std.specs.Prelude.{◌≡◌, ℕ, ◌+◌, ◌-◌, ◌^◌, ◌<◌, Bool, true, false, not, ◌&&◌, List, [], ◌∷◌, map, length, slice_index_or, ◌==◌, nat_lt, nat_le, sum_by}
use Rattle.std.specs.List.{list_all, list_any, AllByRecursion}
use Rattle.state_rules.specs.Bits.{bit_in, same_bit}
use Rattle.state_rules.specs.Assignments.{Assignment, assignment}
use Rattle.state_rules.specs.Values.{values}
use Rattle.state_rules.specs.declared.nodes.TheConstants.{CHILD_LIMIT}
use Rattle.state_rules.specs.declared.nodes.NodeKind.{NodeKind}
use Rattle.state_rules.specs.declared.nodes.NodeKind.TheVariants.{Literal, And, Or}

-- whether at most one of the bits is 1
abbrev pub at_most_one : List Bool → Bool
at_most_one [] = true
at_most_one (true ∷ bs) = not (list_any (λ b. b) bs)
at_most_one (false ∷ bs) = at_most_one bs

pub record Node : Type 0 where
  pub what : NodeKind
  pub kids : List ℕ

abbrev pub literal_node : ℕ → Bool → Node
literal_node var positive = record { what = Literal positive var; kids = [] }

-- an And node without children is true
abbrev pub true_node : Node
true_node = record { what = And; kids = [] }

-- an Or node without children is false
abbrev pub false_node : Node
false_node = record { what = Or; kids = [] }

-- the node with this number, and a true one past the end
abbrev pub node_at : List Node → ℕ → Node
node_at nodes number = slice_index_or nodes number true_node

-- the last node is the root; the variables are 1 to vars
pub record Graph : Type 0 where
  pub nodes : List Node
  pub vars : ℕ

-- whether a node is true: a literal node by the assignment, an And node if all children are true, an Or node if one is
abbrev pub truth_by : Assignment → NodeKind → List Bool → Bool
truth_by a (Literal positive var) kids = same_bit positive (a var)
truth_by a And kids = list_all (λ b. b) kids
truth_by a Or kids = list_any (λ b. b) kids

abbrev pub truth : Assignment → Node → List Bool → Bool
truth a node earlier = truth_by a node.what (map (bit_in earlier) node.kids)

abbrev pub is_true : List Node → ℕ → Assignment → Bool
is_true nodes i a = bit_in (values (truth a) nodes) i

-- whether variable `v` is at a node or below it
abbrev pub mention_by : ℕ → NodeKind → List Bool → Bool
mention_by v (Literal positive var) kids = var == v
mention_by v And kids = list_any (λ b. b) kids
mention_by v Or kids = list_any (λ b. b) kids

abbrev pub mention : ℕ → Node → List Bool → Bool
mention v node earlier = mention_by v node.what (map (bit_in earlier) node.kids)

abbrev pub mentions : List Node → ℕ → ℕ → Bool
mentions nodes v i = bit_in (values (mention v) nodes) i

-- whether at most one child of an And node mentions the variable; children are counted by position
abbrev pub apart_at : (ℕ → Bool) → NodeKind → List ℕ → Bool
apart_at mentioned (Literal positive var) kids = true
apart_at mentioned And kids = at_most_one (map mentioned kids)
apart_at mentioned Or kids = true

-- whether two children of an And node share variable `v`
abbrev pub shares : List Node → Node → ℕ → Bool
shares nodes node v = not (apart_at (mentions nodes v) node.what node.kids)

abbrev pub Decomposable : List Node → Type 0
Decomposable nodes =
    (v : ℕ) → AllByRecursion (λ node. apart_at (mentions nodes v) node.what node.kids ≡ true) nodes

-- whether the root is true under bits for the variables
abbrev pub holds : Graph → List Bool → Bool
holds graph bits = is_true graph.nodes (length graph.nodes - 1) (assignment bits)

-- whether a literal node has no children and a variable from 1 to `vars`, and other nodes have fewer children than the limit
abbrev pub kind_fits : ℕ → NodeKind → List ℕ → Bool
kind_fits vars (Literal positive var) kids = (length kids == 0) && (nat_le 1 var && nat_le var vars)
kind_fits vars And kids = nat_lt (length kids) CHILD_LIMIT
kind_fits vars Or kids = nat_lt (length kids) CHILD_LIMIT

-- whether this is so, and each child is before the node, whose number is `own`
abbrev pub node_fits : ℕ → ℕ → Node → Bool
node_fits vars own node = list_all (λ child. nat_lt child own) node.kids && kind_fits vars node.what node.kids

-- whether all nodes fit; the first has the number `own`
abbrev pub nodes_fit : ℕ → ℕ → List Node → Bool
nodes_fit vars own [] = true
nodes_fit vars own (node ∷ nodes) = node_fits vars own node && nodes_fit vars (own + 1) nodes

-- Children come before their parents, literals have variables of the graph, and children of an And node share no variable.
pub record AreNodes (vars : ℕ) (nodes : List Node) : Type 0 where
  pub fit : nodes_fit vars 0 nodes ≡ true
  pub apart : Decomposable nodes

-- what holds of every graph: it has such nodes, at least one, and their numbers fit 32 bits
pub record IsGraph (graph : Graph) : Type 0 where
  pub some : 0 < length graph.nodes
  pub few : length graph.nodes < 2 ^ 32
  pub nodes : AreNodes graph.vars graph.nodes

-- the number of children of all nodes together
abbrev pub edges : List Node → ℕ
edges nodes = sum_by (λ (n : Node). length n.kids) nodes
