-- Sets of variables as bits of words, for some of the variables at a time.
use Rattle.std.specs.Prelude.{◌≡◌, ℕ, ◌<◌, Bool, not, List, [], ◌∷◌, ◌++◌, map, length, Option, Some, None, slice_index, nat_lt, if◌then◌else◌, MatchOption}
use Rattle.std.specs.List.{find, list_any, Contains}
use Rattle.std.specs.List.Sorted.{IsStrictlyIncreasing}
use Rattle.state_rules.specs.declared.nodes.NodeKind.{NodeKind}
use Rattle.state_rules.specs.declared.nodes.NodeKind.TheVariants.{Literal, And, Or}
use Rattle.state_rules.specs.Graphs.{Node, node_at, at_most_one, mention_by, apart_at, shares}
use Rattle.state_rules.specs.Bits.{has_bit}

-- the variable of a literal is added
abbrev pub AddsVariable : List ℕ → NodeKind → List ℕ → Type 0
AddsVariable old (Literal positive var) new = new ≡ old ++ var ∷ []
AddsVariable old And new = new ≡ old
AddsVariable old Or new = new ≡ old

-- rising variables, with all that literals of these nodes have
pub record AreVariables (nodes : List Node) (variables : List ℕ) : Type 0 where
  pub rise : IsStrictlyIncreasing variables
  pub all : (k var : ℕ) (positive : Bool) → k < length nodes → (node_at nodes k).what ≡ Literal positive var → Contains variables var

-- whether the word of a node has a bit
abbrev pub has : List ℕ → ℕ → ℕ → Bool
has column b node = has_bit (slice_index column node) b

-- `any` has the bits of any child's word, `twice` those of two
pub record IsJoined (column kids : List ℕ) (any twice : ℕ) : Type 0 where
  pub some : (b : ℕ) → has_bit any b ≡ list_any (λ x. x) (map (has column b) kids)
  pub more : (b : ℕ) → has_bit twice b ≡ not (at_most_one (map (has column b) kids))

-- `word` has the variables that a node mentions, `twice` those that children of an And node share. After the last variable comes
-- variable 0, which no node mentions.
pub record IsWord (column : List ℕ) (what : NodeKind) (kids variables : List ℕ) (word twice : ℕ) : Type 0 where
  pub some : (b : ℕ) → b < 64 → has_bit word b ≡ mention_by (slice_index variables b) what (map (has column b) kids)
  pub more : (b : ℕ) → b < 64 → has_bit twice b ≡ not (apart_at (has column b) what kids)

-- the first of `variables` that children of a node share
abbrev pub first_of : List Node → List ℕ → ℕ → Option ℕ
first_of nodes variables node = find (shares nodes (node_at nodes node)) variables

-- the first node whose children share one of `variables`, and the first such variable
pub record IsFirstOf (nodes : List Node) (variables : List ℕ) (node var : ℕ) : Type 0 where
  pub inside : node < length nodes
  pub found : first_of nodes variables node ≡ Some var
  pub before : (k : ℕ) → k < node → first_of nodes variables k ≡ None

-- or none
abbrev pub FirstOf : List Node → List ℕ → Option (ℕ × ℕ) → Type 0
FirstOf nodes variables found = MatchOption found
    ((k : ℕ) → k < length nodes → first_of nodes variables k ≡ None)
    (λ n. IsFirstOf nodes variables n.0 n.1)

-- the one with the lower node; the first one if the nodes are equal
abbrev pub earlier : Option (ℕ × ℕ) → Option (ℕ × ℕ) → Option (ℕ × ℕ)
earlier None second = second
earlier (Some a) None = Some a
earlier (Some a) (Some b) = if nat_lt b.0 a.0 then Some b else Some a
