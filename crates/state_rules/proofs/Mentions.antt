-- A variable that no literal has is mentioned nowhere, and shared by no children.
use Rattle.std.proofs.Common.{◌≡◌, ℕ, zero, suc, ◌<◌, ◌≤◌, Bool, true, false, not, ◌==◌, List, [], ◌∷◌, ◌++◌, map, length, refl, ap, arith, inl, inr}
use Rattle.std.specs.List.{list_any}
use Rattle.std.proofs.lemmas.Bool.{or_cases}
use Rattle.state_rules.specs.Bits.{bit_in}
use Rattle.state_rules.specs.Values.{values_after}
use Rattle.state_rules.specs.declared.nodes.NodeKind.{NodeKind}
use Rattle.state_rules.specs.declared.nodes.NodeKind.TheVariants.{Literal, And, Or}
use Rattle.state_rules.specs.Graphs.{Node, node_at, mention, mention_by, mentions, apart_at, nodes_fit, shares}
use Rattle.state_rules.proofs.NodesFit.{fits-at}
use Rattle.state_rules.proofs.Children.{at_most_one-none}

abbrev has_variable : ℕ → NodeKind → Bool
has_variable v (Literal positive var) = var == v
has_variable v And = false
has_variable v Or = false

abbrev is_used : List Node → ℕ → Bool
is_used nodes v = list_any (λ (n : Node). has_variable v n.what) nodes

-- ---- mentioned nowhere

abbrev AllFalse : List Bool → Type 0
AllFalse xs = (k : ℕ) → bit_in xs k ≡ false

AllFalse-push : (xs : List Bool) (x : Bool) → AllFalse xs → x ≡ false → AllFalse (xs ++ x ∷ [])
AllFalse-push [] x h e zero = e
AllFalse-push [] x h e (suc k) = refl
AllFalse-push (y ∷ xs) x h e zero = h zero
AllFalse-push (y ∷ xs) x h e (suc k) = AllFalse-push xs x (λ j. h (suc j)) e k

none_of : (f : ℕ → Bool) (kids : List ℕ) → ((k : ℕ) → f k ≡ false) → list_any (λ b. b) (map f kids) ≡ false
none_of f [] h = refl
none_of f (k ∷ kids) h = rw (h k) (none_of f kids h)

not_mentioned : (v : ℕ) (kind : NodeKind) (kids : List ℕ) (earlier : List Bool) → has_variable v kind ≡ false → AllFalse earlier → mention_by v kind (map (bit_in earlier) kids) ≡ false
not_mentioned v kind kids earlier other h = grind (arith, none_of)

all-false : (v : ℕ) (nodes : List Node) (earlier : List Bool) → is_used nodes v ≡ false → AllFalse earlier → AllFalse (values_after (mention v) earlier nodes)
all-false v [] earlier unused h = h
all-false v (node ∷ nodes) earlier unused h = grind (arith, AllFalse-push, not_mentioned, all-false v nodes (earlier ++ mention v node earlier ∷ []))

none_apart : (f : ℕ → Bool) (kind : NodeKind) (kids : List ℕ) → ((k : ℕ) → f k ≡ false) → apart_at f kind kids ≡ true
none_apart f kind kids none = grind (arith, at_most_one-none, none_of)

unshared : (nodes : List Node) (node : Node) (v : ℕ) → is_used nodes v ≡ false → shares nodes node v ≡ false
unshared nodes node v unused = ap not (none_apart (mentions nodes v) node.what node.kids (all-false v nodes [] unused (λ k. refl)))

-- ---- so a variable that is mentioned or shared is that of a literal

pub record IsUsed (nodes : List Node) (v : ℕ) : Type 0 where
  pub at : ℕ
  pub inside : at < length nodes
  pub positive : Bool
  pub literal : (node_at nodes at).what ≡ Literal positive v

used_kind : (v : ℕ) (kind : NodeKind) → has_variable v kind ≡ true → (positive : Bool) × (kind ≡ Literal positive v)
used_kind v kind e = grind arith

IsUsed-from : (nodes : List Node) (v : ℕ) → is_used nodes v ≡ true → IsUsed nodes v
IsUsed-from [] v e = absurd (let no : false ≡ true = e in cc)
IsUsed-from (node ∷ nodes) v e = elim (or_cases (has_variable v node.what) (is_used nodes v) e) [
  | inl here ↦ (let is = used_kind v node.what here in record { at = 0; inside = omega arith; positive = is.0; literal = is.1 })
  | inr later ↦ (let is = IsUsed-from nodes v later in record { at = suc is.at; inside = omega (arith, is.inside); positive = is.positive; literal = is.literal })
]

pub IsUsed-mentioned : (nodes : List Node) (v i : ℕ) → mentions nodes v i ≡ true → IsUsed nodes v
IsUsed-mentioned nodes v i mentioned = grind (arith, IsUsed-from, all-false)

pub IsUsed-shared : (nodes : List Node) (node : Node) (v : ℕ) → shares nodes node v ≡ true → IsUsed nodes v
IsUsed-shared nodes node v shared = grind (arith, IsUsed-from, unshared)

-- a variable from 1 to `vars`
pub record InRange (vars v : ℕ) : Type 0 where
  pub low : 1 ≤ v
  pub high : v ≤ vars

pub IsUsed-range : (vars : ℕ) (nodes : List Node) (v : ℕ) → nodes_fit vars 0 nodes ≡ true → IsUsed nodes v → InRange vars v
IsUsed-range vars nodes v fit used = grind (arith, fits-at vars nodes used.at fit used.inside)

pub mentioned-range : (vars : ℕ) (nodes : List Node) (v i : ℕ) → nodes_fit vars 0 nodes ≡ true → mentions nodes v i ≡ true → InRange vars v
mentioned-range vars nodes v i fit mentioned = IsUsed-range vars nodes v fit (IsUsed-mentioned nodes v i mentioned)

-- no children share variable 0
pub unshared-0 : (vars : ℕ) (nodes : List Node) (node : Node) → nodes_fit vars 0 nodes ≡ true → shares nodes node 0 ≡ false
unshared-0 vars nodes node fit = grind (arith, IsUsed-range, IsUsed-shared)
