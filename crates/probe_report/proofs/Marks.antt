-- What the marks of the nodes say, and the wires that are left by them.
use Rattle.std.proofs.Common.{◌≡◌, ◌≢◌, ℕ, ◌+◌, ◌-◌, ◌<◌, ◌≤◌, Bool, true, false, not, List, map, length, take, get_or, refl, ap, sym, ◌∙◌, arith, inl, inr, ⊎_elim}
use Rattle.std.specs.Prelude.{◌⊎◌, ◌==◌}
use Rattle.std.specs.List.{list_any}
use Rattle.std.proofs.lemmas.Bool.{or_right, eqb-true, eq-eqb, false≢true, not-true, cases_eq}
use Rattle.state_rules.proofs.Lists.{list_any-map, any-never}
use Rattle.state_rules.specs.declared.nodes.NodeKind.TheVariants.{Literal, Or}
use Rattle.state_rules.specs.Graphs.{Node, Graph, node_at, mention_by, mentions, IsGraph}
use Rattle.state_rules.proofs.NodeValues.{map-below, value_of-at}
use Rattle.state_rules.proofs.NodesFit.{fits-at}
use Rattle.state_rules.proofs.WordBits.{has_bit-zero}
use Rattle.state_rules.specs.Bits.{has_bit}
use Rattle.minimiser.specs.inner.Swept.{is_child}
use Rattle.minimiser.proofs.SpreadMarks.{child_before}
use Rattle.minimiser.specs.inner.Outside.{lowered}
use Rattle.probe_report.specs.inner.Outside.{IsLowered, AtLiteral, AtChild, Without, With, mark_at, is_left}
use Rattle.probe_report.specs.inner.Leaving.{IsMarked, LeftChild, LeftNode, LowersBlock}
use Rattle.probe_report.proofs.LoweredNumbers.{lowered-then, lowered-as, is_child-more, block-then, block-as, block-none}
use Rattle.probe_report.proofs.Bits.{has_bit-all}

-- ---- one more child

module _ (values marks kids : List ℕ) (mark outside start i : ℕ) (lt : i < length kids) where
  abbrev child : ℕ
  child = get_or kids i 0

  abbrev Left : ℕ → ℕ → ℕ → Type 0
  Left n place cost = LeftChild values marks (take n kids) mark outside start place cost

  wider : (place cost : ℕ) → Left i place cost → Left (i + 1) place cost
  wider place cost l = grind (arith, is_child-more)

  -- a child that is left is one of those before, or this one
  narrower : (place cost : ℕ) → (l : Left (i + 1) place cost) → Left i place cost ⊎ (get_or kids i 0 ≡ l.child)
  narrower place cost l = grind (arith, is_child-more)

  pub left-more : (a b c : List ℕ) → length b ≡ length a → LowersBlock start (λ p. LeftChild values marks (take i kids) mark outside start p) a b → get_or values (get_or kids i 0) 0 < 2147483647
      → ((p : ℕ) → p < length b → get_or c p 0 ≡ lowered (is_left start mark (mark_at marks (get_or kids i 0)) p) (outside + get_or values (get_or kids i 0) 0) (get_or b p 0))
      → LowersBlock start (λ p. LeftChild values marks (take (i + 1) kids) mark outside start p) a c
  left-more a b c long before small each =
      block-then {P = Left i} {Q = λ p x. (is_left start mark (mark_at marks child) p ≡ true) × (x ≡ outside + get_or values child 0)} {R = Left (i + 1)} start a b c long before
      (grind arith)
      wider
      (λ p x h g q. record { child = child; is_child_of = is_child-more kids i child lt ∙ or_right (is_child (take i kids) child) (child == child) (eq-eqb child child refl); has = grind arith; lacks = grind arith; value = small; is = q.1 })
      (λ p x h g l. ⊎_elim (λ w. inl w) (λ (e : child ≡ l.child). inr (grind arith, grind arith)) (narrower p x l))

  -- a child that mentions all that its parent does, or has no value, changes nothing
  pub left-same : (a b : List ℕ) → LowersBlock start (λ p. LeftChild values marks (take i kids) mark outside start p) a b → (mark_at marks (get_or kids i 0) ≡ mark) ⊎ (2147483647 ≤ get_or values (get_or kids i 0) 0)
      → LowersBlock start (λ p. LeftChild values marks (take (i + 1) kids) mark outside start p) a b
  left-same a b before why = block-as {P = Left i} {R = Left (i + 1)} start a b before (λ p x h g. wider p x)
      (λ p x h g l. ⊎_elim (λ w. w) (λ (e : child ≡ l.child). absurd (grind (arith, false≢true))) (narrower p x l))

-- ---- one more node

module _ (graph : Graph) (ok : IsGraph graph) (old new : List ℕ) (first at mark : ℕ) (lt : at < length graph.nodes) (marked : IsMarked graph.nodes first at old)
    (is : (b : ℕ) → b < 64 → has_bit mark b ≡ mention_by (first + b) (node_at graph.nodes at).what (map (λ k. has_bit (mark_at old k) b) (node_at graph.nodes at).kids)) where
  mark-right : (b : ℕ) → b < 64 → has_bit mark b ≡ mentions graph.nodes (first + b) at
  mark-right b small =
      let under = (fits-at graph.vars graph.nodes at ok.nodes.fit lt).below in
      is b small
      ∙ ap (mention_by (first + b) (node_at graph.nodes at).what) (grind (arith, map-below))
      ∙ sym (value_of-at (mention_by (first + b)) graph.nodes at lt under)

  pub marked-more : mark_at new at ≡ mark → ((other : ℕ) → other ≢ at → mark_at new other ≡ mark_at old other) → IsMarked graph.nodes first (at + 1) new
  marked-more here others node b h small = grind (arith, mark-right)

-- ---- nodes that mention none of the variables

-- none of the nodes before one mentions any of them
abbrev pub NoneMarked : List Node → ℕ → ℕ → Type 0
NoneMarked nodes first at = (node b : ℕ) → node < at → b < 64 → mentions nodes (first + b) node ≡ false

module _ (graph : Graph) (ok : IsGraph graph) (first at : ℕ) (lt : at < length graph.nodes) (before : NoneMarked graph.nodes first at) where
  any-false : (kids : List ℕ) → list_any (λ x. x) (map (λ (k : ℕ). false) kids) ≡ false
  any-false kids = list_any-map (λ x. x) (λ (k : ℕ). false) kids ∙ any-never kids

  node-mentions : (b : ℕ) → b < 64 → mentions graph.nodes (first + b) at ≡ mention_by (first + b) (node_at graph.nodes at).what (map (λ (k : ℕ). false) (node_at graph.nodes at).kids)
  node-mentions b small =
      let under = (fits-at graph.vars graph.nodes at ok.nodes.fit lt).below in
      value_of-at (mention_by (first + b)) graph.nodes at lt under
      ∙ sym (ap (mention_by (first + b) (node_at graph.nodes at).what) (map-below (λ (k : ℕ). false) (mentions graph.nodes (first + b)) at (node_at graph.nodes at).kids under (λ k h. sym (before k b h small))))

  none-more : ((b : ℕ) → b < 64 → mention_by (first + b) (node_at graph.nodes at).what (map (λ (k : ℕ). false) (node_at graph.nodes at).kids) ≡ false) → NoneMarked graph.nodes first (at + 1)
  none-more none node b h small = ⊎_elim (λ (e : node ≡ at). rw e (node-mentions b small ∙ none b small)) (λ (ne : node ≢ at). before node b (omega arith) small) (cases_eq node at)

  pub none-literal : (var mark : ℕ) (positive : Bool) → Literal positive var ≡ (node_at graph.nodes at).what → ((b : ℕ) → b < 64 → has_bit mark b ≡ (var == first + b)) → mark ≡ 0 → NoneMarked graph.nodes first (at + 1)
  none-literal var mark positive e is none = grind (arith, none-more)

  pub none-gate : ((var : ℕ) (positive : Bool) → (node_at graph.nodes at).what ≡ Literal positive var → ⊥) → NoneMarked graph.nodes first (at + 1)
  none-gate other = grind (arith, none-more, any-false)

-- unset marks are right if no node so far mentions one of the variables
pub marked-none : (nodes : List Node) (first at : ℕ) (marks : List ℕ) → NoneMarked nodes first at → ((node : ℕ) → node < at → mark_at marks node ≡ 0) → IsMarked nodes first at marks
marked-none nodes first at marks none clear node b h small = grind (arith, has_bit-zero)

pub none-left : (nodes : List Node) (values outside : List ℕ) (parts start at : ℕ) (list : List ℕ) → NoneMarked nodes (parts + start + 1) at → LowersBlock start (λ p x. (node : ℕ) × (node < at) × AtChild nodes values outside (parts + p + 1) node x) list list
none-left nodes values outside parts start at list none = block-none {P = λ p x. (node : ℕ) × (node < at) × AtChild nodes values outside (parts + p + 1) node x} start list
    (λ p x h g m. grind (arith, none m.0 (p - start)))

module _ (graph : Graph) (ok : IsGraph graph) (values outside marks : List ℕ) (parts start at : ℕ) (lt : at < length graph.nodes) (marked : IsMarked graph.nodes (parts + start + 1) (at + 1) marks) where
  abbrev Met : ℕ → ℕ → ℕ → Type 0
  Met n place cost = (node : ℕ) × (node < n) × AtChild graph.nodes values outside (parts + place + 1) node cost

  -- the mark of a node says whether it mentions the variable of a place
  says : (node place : ℕ) → node < at + 1 → start ≤ place → place < start + 64 → has_bit (mark_at marks node) (place - start) ≡ mentions graph.nodes (parts + place + 1) node
  says node place h low high = grind arith

  pub node-more : (a b c : List ℕ) → length b ≡ length a → LowersBlock start (λ p x. (node : ℕ) × (node < at) × AtChild graph.nodes values outside (parts + p + 1) node x) a b
      → LowersBlock start (λ p. LeftNode graph.nodes values outside marks at start p) b c
      → LowersBlock start (λ p x. (node : ℕ) × (node < at + 1) × AtChild graph.nodes values outside (parts + p + 1) node x) a c
  node-more a b c long before here = grind (arith, block-then, child_before)

-- ---- the root

module _ (graph : Graph) (ok : IsGraph graph) (values outside marks : List ℕ) (parts start count : ℕ) (all : count ≡ length graph.nodes) (marked : IsMarked graph.nodes (parts + start + 1) count marks) where
  abbrev root : ℕ
  root = length graph.nodes - 1

  root-left : (place : ℕ) → start ≤ place → place < start + 64 → is_left start 18446744073709551615 (mark_at marks (length graph.nodes - 1)) place ≡ not (mentions graph.nodes (parts + place + 1) (length graph.nodes - 1))
  root-left place h g = grind (arith, has_bit-all)

  pub root-more : (a b c : List ℕ) → length b ≡ length a → LowersBlock start (λ p x. (node : ℕ) × (node < count) × AtChild graph.nodes values outside (parts + p + 1) node x) a b
      → ((p : ℕ) → p < length b → get_or c p 0 ≡ lowered (is_left start 18446744073709551615 (mark_at marks (length graph.nodes - 1)) p) (get_or values (length graph.nodes - 1) 0) (get_or b p 0))
      → LowersBlock start (λ p. Without graph.nodes values outside (parts + p + 1)) a c
  root-more a b c long before each = block-then
      {P = λ p x. (node : ℕ) × (node < count) × AtChild graph.nodes values outside (parts + p + 1) node x}
      {Q = λ p x. (is_left start 18446744073709551615 (mark_at marks root) p ≡ true) × (x ≡ get_or values root 0)}
      {R = λ p. Without graph.nodes values outside (parts + p + 1)} start a b c long before
      (grind arith)
      (λ p x m. inl (m.0, m.2))
      (λ p x h g q. inr (record { lacks = not-true _ (sym (root-left p h g) ∙ q.0); is = q.1 }))
      (λ p x h g w. ⊎_elim
      (λ k. inl (k.0, omega (arith, all, k.1.within), k.1))
      (λ r. inr (root-left p h g ∙ ap not r.lacks, r.is)) w)

-- what an Or node lowers
pub node-left : (nodes : List Node) (values outside marks : List ℕ) (at start : ℕ) (a b kids : List ℕ) → (node_at nodes at).what ≡ Or → get_or outside at 0 < 2147483647 → kids ≡ (node_at nodes at).kids
    → LowersBlock start (λ p. LeftChild values marks kids (mark_at marks at) (get_or outside at 0) start p) a b → LowersBlock start (λ p. LeftNode nodes values outside marks at start p) a b
node-left nodes values outside marks at start a b kids or_is small same before = grind (arith, block-as)

-- ---- literals

module _ (nodes : List Node) (outside : List ℕ) (var : ℕ) (bit : Bool) (at : ℕ) where
  abbrev Said : ℕ → ℕ → Type 0
  Said n x = (node : ℕ) × (node < n) × AtLiteral nodes outside var bit node x

  not-here : (x : ℕ) → (m : Said (at + 1) x) → Said at x ⊎ AtLiteral nodes outside var bit at x
  not-here x m = grind (arith, cases_eq)

  pub literal-more : (a b c v : ℕ) (positive : Bool) → at < length nodes → IsLowered (λ x. (node : ℕ) × (node < at) × AtLiteral nodes outside var bit node x) a b → Literal positive v ≡ (node_at nodes at).what → positive ≡ bit
      → c ≡ lowered (v == var) (get_or outside at 0) b → IsLowered (λ x. (node : ℕ) × (node < at + 1) × AtLiteral nodes outside var bit node x) a c
  literal-more a b c v positive h before is sign e = lowered-then {P = Said at} {Q = λ x. ((v == var) ≡ true) × (x ≡ get_or outside at 0)} {R = Said (at + 1)} a b c before
      (grind arith)
      (λ x m. (m.0, omega (arith, m.1), m.2))
      (λ x q. (at, omega arith, record { within = h; literal = sym is ∙ (λ i. Literal (sign i) (eqb-true v var q.0 i)); is = q.1 }))
      (λ x m. ⊎_elim (λ w. inl w) (λ w. inr (eq-eqb v var (same_var (is ∙ w.literal)), w.is)) (not-here x m)) where
        same_var : {p q : Bool} → Literal p v ≡ Literal q var → v ≡ var
        same_var e = cc

  pub literal-same : (a b : ℕ) → IsLowered (λ x. (node : ℕ) × (node < at) × AtLiteral nodes outside var bit node x) a b → ((node_at nodes at).what ≡ Literal bit var → ⊥)
      → IsLowered (λ x. (node : ℕ) × (node < at + 1) × AtLiteral nodes outside var bit node x) a b
  literal-same a b before other = lowered-as {P = Said at} {R = Said (at + 1)} a b before (λ x m. (m.0, omega (arith, m.1), m.2))
      (λ x m. ⊎_elim (λ w. w) (λ w. absurd (other w.literal)) (not-here x m))

  pub literal-all : (a b : ℕ) → length nodes ≤ at → IsLowered (λ x. (node : ℕ) × (node < at) × AtLiteral nodes outside var bit node x) a b → IsLowered (With nodes outside var bit) a b
  literal-all a b past before = lowered-as {P = Said at} {R = With nodes outside var bit} a b before (λ x m. (m.0, m.2)) (λ x m. (m.0, omega (arith, past, m.1.within), m.1))
