-- Where a derivation of the root leaves the nodes that mention a variable.
use Rattle.std.specs.Prelude.{◌≡◌, ℕ, ◌+◌, ◌-◌, ◌*◌, ◌<◌, ◌≤◌, ◌⊎◌, Bool, true, false, not, ◌&&◌, nat_le, nat_lt, List, length, slice_index}
use Rattle.state_rules.specs.declared.nodes.NodeKind.TheVariants.{Literal, Or}
use Rattle.state_rules.specs.Graphs.{Node, node_at, mentions}
use Rattle.state_rules.specs.Bits.{has_bit}
use Rattle.minimiser.specs.inner.Swept.{is_child}

-- `new` is the least of `old` and some costs
pub record IsLowered (Cost : ℕ → Type 0) (old new : ℕ) : Type 0 where
  pub below : new ≤ old
  pub low : (c : ℕ) → Cost c → new ≤ c
  pub from : (new ≡ old) ⊎ Cost new

-- ---- where a variable is left

-- at a literal of the variable with the bit
pub record AtLiteral (nodes : List Node) (outside : List ℕ) (var : ℕ) (bit : Bool) (node cost : ℕ) : Type 0 where
  pub within : node < length nodes
  pub literal : (node_at nodes node).what ≡ Literal bit var
  pub is : cost ≡ slice_index outside node

-- at a child that does not mention the variable, of an Or node that does
pub record AtChild (nodes : List Node) (values outside : List ℕ) (var node cost : ℕ) : Type 0 where
  pub within : node < length nodes
  pub or_ : (node_at nodes node).what ≡ Or
  pub child : ℕ
  pub is_child_of : is_child (node_at nodes node).kids child ≡ true
  pub has : mentions nodes var node ≡ true
  pub lacks : mentions nodes var child ≡ false
  pub small : slice_index outside node < 2147483647
  pub value : slice_index values child < 2147483647
  pub is : cost ≡ slice_index outside node + slice_index values child

-- at a root that does not mention it
pub record AtRoot (nodes : List Node) (values : List ℕ) (var cost : ℕ) : Type 0 where
  pub lacks : mentions nodes var (length nodes - 1) ≡ false
  pub is : cost ≡ slice_index values (length nodes - 1)

-- the cost of a derivation without a literal of the variable
abbrev pub Without : List Node → List ℕ → List ℕ → ℕ → ℕ → Type 0
Without nodes values outside var cost = ((node : ℕ) × AtChild nodes values outside var node cost) ⊎ AtRoot nodes values var cost

-- the cost of a derivation with the literal that gives it the bit
abbrev pub With : List Node → List ℕ → ℕ → Bool → ℕ → Type 0
With nodes outside var bit cost = (node : ℕ) × AtLiteral nodes outside var bit node cost

-- ---- marks of 64 variables

-- the mark of a node, in two words
abbrev pub mark_at : List ℕ → ℕ → ℕ
mark_at marks node = slice_index marks (2 * node) + 4294967296 * slice_index marks (2 * node + 1)

-- Whether the variable at `place` is left: it is one of the 64 from `start` on, the mark has its bit, and the child's mark has not.
abbrev pub is_left : ℕ → ℕ → ℕ → ℕ → Bool
is_left start mark child place =
    (nat_le start place && nat_lt place (start + 64)) && (has_bit mark (place - start) && not (has_bit child (place - start)))
