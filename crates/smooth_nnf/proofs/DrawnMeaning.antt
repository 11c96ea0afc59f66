-- The meaning of lines drawn for nodes: a line is true if its node can be, at its least cost, with the same bits of the parts below it.
use Rattle.std.proofs.Common.{◌≡◌, ℕ, ◌<◌, ◌≤◌, Bool, true, false, not, ◌&&◌, All, List, [], ◌∷◌, map, length, Option, Some, refl, ap, sym, ◌∙◌, subst, arith, ⊎_elim, inl, inr}
use Rattle.std.proofs.lemmas.Bool.Decides.{nat_tests}
use Rattle.std.specs.Prelude.{slice_get, nat_le}
use Rattle.std.specs.List.{list_all, list_any}
use Rattle.std.proofs.lemmas.Bool.{and_from, and_parts, or_cases, or_left, or_right, eqb-true, eq-eqb, not-true}
use Rattle.state_rules.specs.Bits.{same_bit}
use Rattle.state_rules.specs.Cases.{agrees_at}
use Rattle.state_rules.specs.Assignments.{Assignment}
use Rattle.state_rules.specs.Values.{values}
use Rattle.state_rules.proofs.Bits.{same_bit-equal, same_bit-refl}
use Rattle.state_rules.proofs.Members.{In, In-filter, In-filtered, AtMost}
use Rattle.state_rules.specs.declared.nodes.NodeKind.TheVariants.{Literal, And, Or}
use Rattle.state_rules.specs.Graphs.{at_most_one, Graph, mentions, is_true, IsGraph}
use Rattle.state_rules.proofs.Children.{at_most_one-tail, not_both}
use Rattle.minimiser.specs.Costs.{part_cost, known_at, cost_at, sum_costs, node_cost, least_at}
use Rattle.node_costs.proofs.Conditions.{cost_among-apart, join, joined-le}
use Rattle.minimiser.proofs.Costs.{fault, open_weights, Agrees, faults_in, faults_in-le, from_add, Reaches}
use Rattle.minimiser.proofs.Derivations.{is_cost, kids-cost, Apart, true-at, mention-at, apart-kids, costs-at, any-child, child-with, faults-lt, or-child}
use Rattle.smooth_nnf.specs.Layouts.{filling, costs_just, cheapest_children}

-- ---- costs of children

-- a child of least cost
pub cheapest-in : (least : List (Option ℕ)) (c : ℕ) (kids : List ℕ) (k : ℕ) → In k kids → cost_at least k ≡ Some c → In k (cheapest_children least c kids)
cheapest-in least c kids k m e = In-filtered (λ j. costs_just c (cost_at least j)) k kids m (ap (costs_just c) e ∙ eq-eqb c c refl)

pub cheapest-is : (least : List (Option ℕ)) (c : ℕ) (kids : List ℕ) (k : ℕ) → In k (cheapest_children least c kids) → In k kids × (cost_at least k ≡ Some c)
cheapest-is least c kids k m = grind (arith, nat_tests, In-filter, eqb-true)

-- a bit that agrees and costs nothing is the one that fills in
filled_bit : (k : Option Bool) (b : Bool) (w : ℕ) → 0 < w → agrees_at k b ≡ true → (fault k w b ≡ 0) → b ≡ filling k
filled_bit k b w dear ag free = grind (arith, nat_tests, same_bit-equal)

module _ (graph : Graph) (evidence costs : List ℕ) (ok : IsGraph graph) (dear : All (λ c. 0 < c) costs) where
  abbrev kn : ℕ → Option Bool
  kn v = known_at evidence v

  abbrev price : ℕ → ℕ
  price v = part_cost costs v

  abbrev n : ℕ
  n = length costs

  abbrev T : Assignment → ℕ → Bool
  T a k = is_true graph.nodes k a

  abbrev M : ℕ → ℕ → Bool
  M v k = mentions graph.nodes v k

  -- whether a variable is a part's
  abbrev pub is_part : ℕ → Bool
  is_part v = nat_le 1 v && nat_le v (length costs)

  -- an assignment that agrees and passes the test at cost `c` or less, with the same bits of some parts
  pub record Gives (t : Assignment → Bool) (m : ℕ → Bool) (c : ℕ) (a : Assignment) : Type 0 where
    pub is : Reaches (known_at evidence) (part_cost costs) (length costs) t c
    pub same : (v : ℕ) → is_part v ≡ true → m v ≡ true → a v ≡ is.by v

  -- A line is true if its test can be passed at cost `c` or less, with the same bits of the parts that the test is about.
  pub record Means (t : Assignment → Bool) (m : ℕ → Bool) (c : ℕ) (line : Assignment → Bool) : Type 0 where
    pub sound : (a b : Assignment) → Agrees (known_at evidence) (part_cost costs) (length costs) b → t b ≡ true → faults_in (known_at evidence) (part_cost costs) (length costs) m b ≤ c
        → ((v : ℕ) → is_part v ≡ true → m v ≡ true → a v ≡ b v) → line a ≡ true
    pub reached : (a : Assignment) → line a ≡ true → Gives t m c a

  -- the same for the test of a node
  abbrev pub NodeMeans : ℕ → ℕ → (Assignment → Bool) → Type 0
  NodeMeans k c line = Means (λ a. is_true graph.nodes k a) (λ v. mentions graph.nodes v k) c line

  -- ---- a part that is not below a node

  -- if a node is true at its least cost, parts not below it have the bits that fill them in
  outside : (k c : ℕ) → least_at graph evidence costs k ≡ Some c → (o : ℕ → Bool) → ((v : ℕ) → M v k ≡ true → o v ≡ true) → (b : Assignment) → Agrees kn price n b → T b k ≡ true → faults_in kn price n o b ≤ c
      → (v : ℕ) → is_part v ≡ true → o v ≡ true → M v k ≡ false → b v ≡ filling (kn v)
  outside k c e o wider b ag h few v part in_o not_below =
      let range : (1 ≤ v) × (v ≤ n) = grind (arith, nat_tests, part) in
      let most : c ≤ faults_in kn price n (λ u. M u k) b = subst (λ d. AtMost d (faults_in kn price n (λ u. M u k) b)) e ((is_cost graph evidence costs ok k).bound b ag h) in
      let less : 0 < fault (kn v) (price v) (b v) → faults_in kn price n (λ u. M u k) b < faults_in kn price n o b =
      λ costly. faults-lt graph evidence costs ok b ag v range.0 (omega (arith, range.1)) (grind (arith, nat_tests, costly)) costly (λ u. M u k) o wider not_below in_o in
      filled_bit (kn v) (b v) (price v) (grind (arith, nat_tests, range.0, range.1)) (ag v) (grind (arith, most, less, few))

  -- ---- parts that are filled in

  -- some parts have the bits that fill them in
  abbrev pub AreFilled : (ℕ → Bool) → Assignment → Type 0
  AreFilled missing a = (v : ℕ) → is_part v ≡ true → missing v ≡ true → a v ≡ filling (known_at evidence v)

  pub record Fills (missing : ℕ → Bool) (line : Assignment → Bool) : Type 0 where
    pub sound : (a : Assignment) → AreFilled missing a → line a ≡ true
    pub reached : (a : Assignment) → line a ≡ true → AreFilled missing a

  -- a node's line with the parts of a larger set that are not below it
  pub filled : (k c : ℕ) → least_at graph evidence costs k ≡ Some c → (o : ℕ → Bool) → ((v : ℕ) → M v k ≡ true → o v ≡ true) → (line fill : Assignment → Bool) → NodeMeans k c line
      → Fills (λ v. o v && not (M v k)) fill → Means (λ a. T a k) o c (λ a. line a && fill a)
  filled k c e o wider line fill means fills = record {
    sound = λ a b ag h few same. and_from _ _
        (means.sound a b ag h (omega (arith, few, faults_in-le kn price n (λ v. M v k) o b wider)) (λ v p q. same v p (wider v q)))
        (fills.sound a (λ v p q. let both = and_parts (o v) (not (M v k)) q in same v p both.0 ∙ outside k c e o wider b ag h few v p both.0 (not-true (M v k) both.1)));
    reached = λ a h.
        let both = and_parts (line a) (fill a) h in
        let g = means.reached a both.0 in
        record {
          is = g.is;
          same = λ v p q. grind (arith, nat_tests, g.same v p, fills.reached a both.1 v p, outside k c e (λ u. true) (λ u r. refl) g.is.by g.is.agrees g.is.holds g.is.cheap v p refl);
        };
  }

  -- ---- a literal

  module _ (k var : ℕ) (positive : Bool) (kids : List ℕ) (e : slice_get graph.nodes k ≡ Some (record { what = Literal positive var; kids = kids })) (c : ℕ) (cost_is : least_at graph evidence costs k ≡ Some c) where
    of_var : (v : ℕ) → M v k ≡ true → var ≡ v
    of_var v m = eqb-true var v (sym (mention-at graph evidence costs ok k _ e v) ∙ m)

    says : (a : Assignment) → T a k ≡ true → a var ≡ positive
    says a h = sym (same_bit-equal positive (a var) (sym (true-at graph evidence costs ok k _ e a) ∙ h))

    -- a part's literal
    pub part-means : is_part var ≡ true → NodeMeans k c (λ a. same_bit positive (a var))
    part-means part = record {
      sound = λ a b ag h few same. ap (same_bit positive) (same var part (mention-at graph evidence costs ok k _ e var ∙ eq-eqb var var refl) ∙ says b h) ∙ same_bit-refl positive;
      reached = λ a h.
          let r = (is_cost graph evidence costs ok k).reached c cost_is in
          record { is = r; same = λ v p m. subst (λ u. a u ≡ r.by u) (of_var v m) (sym (same_bit-equal positive (a var) h) ∙ sym (says r.by r.holds)) };
    }

    -- a literal of another variable
    pub other-means : is_part var ≡ false → NodeMeans k c (λ a. true)
    other-means other = record {
      sound = λ a b ag h few same. refl;
      reached = λ a h.
          record { is = (is_cost graph evidence costs ok k).reached c cost_is; same = λ v p m. grind (arith, p, of_var v m, other) };
    }

  -- ---- an And node

  module _ (line : ℕ → Assignment → Bool) where
    all_lines : (kids : List ℕ) → ((v : ℕ) → at_most_one (map (M v) kids) ≡ true) → ((k c : ℕ) → In k kids → least_at graph evidence costs k ≡ Some c → NodeMeans k c (line k))
        → (c : ℕ) → sum_costs (map (least_at graph evidence costs) kids) ≡ Some c
        → Means (λ a. list_all (λ b. b) (map (T a) kids)) (λ v. list_any (λ b. b) (map (M v) kids)) c (λ a. list_all (λ b. b) (map (λ k. line k a) kids))
    unfolding Apart
    all_lines [] apart are c s = record {
      sound = λ a b ag h few same. refl;
      reached = λ a h.
          record { is = (kids-cost graph evidence costs ok [] apart).reached c s; same = λ v p m. absurd (cc) };
    }
    all_lines (j ∷ kids) apart are c s =
        let sum = from_add (least_at graph evidence costs j) (sum_costs (map (least_at graph evidence costs) kids)) c s in
        let later : (v : ℕ) → at_most_one (map (M v) kids) ≡ true = λ v. at_most_one-tail (M v j) (map (M v) kids) (apart v) in
        let both : (v : ℕ) → (M v j && list_any (λ b. b) (map (M v) kids)) ≡ false = λ v. not_both (M v j) (map (M v) kids) (apart v) in
        let j_is = is_cost graph evidence costs ok j in
        let children_are = kids-cost graph evidence costs ok kids later in
        let first = are j sum.left (inl refl) sum.left_is in
        let rest = all_lines kids later (λ k d m. are k d (inr m)) sum.right sum.right_is in
        record {
          sound = λ a b ag h few same.
              let parts = and_parts (T b j) (list_all (λ x. x) (map (T b) kids)) h in
              let low_here : sum.left ≤ faults_in kn price n (λ v. M v j) b = subst (λ o. AtMost o (faults_in kn price n (λ v. M v j) b)) sum.left_is (j_is.bound b ag parts.0) in
              let low_there : sum.right ≤ faults_in kn price n (λ v. list_any (λ x. x) (map (M v) kids)) b =
              subst (λ o. AtMost o (faults_in kn price n (λ v. list_any (λ x. x) (map (M v) kids)) b)) sum.right_is (children_are.bound b ag parts.1) in
              let all = cost_among-apart (open_weights kn price n) (λ v. M v j) (λ v. list_any (λ x. x) (map (M v) kids)) b both in
              and_from _ _
              (first.sound a b ag parts.0 (omega (arith, all, low_there, sum.sum_is, few)) (λ v p q. same v p (or_left _ _ q)))
              (rest.sound a b ag parts.1 (omega (arith, all, low_here, sum.sum_is, few)) (λ v p q. same v p (or_right _ _ q)));
          reached = λ a h.
              let parts = and_parts (line j a) (list_all (λ b. b) (map (λ k. line k a) kids)) h in
              let g = first.reached a parts.0 in
              let r = rest.reached a parts.1 in
              let p = g.is in
              let q = r.is in
              let x = join (open_weights kn price n) (λ v. M v j) (λ v. list_any (λ y. y) (map (M v) kids)) both p.by q.by p.agrees q.agrees in
              record {
                is = record {
                  by = x.by;
                  agrees = x.agrees;
                  holds = and_from _ _ (j_is.local x.by p.by x.as_left ∙ p.holds) (children_are.local x.by q.by x.as_right ∙ q.holds);
                  cheap = omega (arith, joined-le (open_weights kn price n) (λ v. M v j) (λ v. list_any (λ y. y) (map (M v) kids)) (λ v. true) p.by q.by x, p.cheap, q.cheap, sum.sum_is);
                };
                same = λ v p q. ⊎_elim
                    (λ m. g.same v p m ∙ sym (x.as_left v m))
                    (λ m. r.same v p m ∙ sym (x.as_right v m))
                    (or_cases (M v j) (list_any (λ y. y) (map (M v) kids)) q);
              };
        }

    -- all lines of the children of an And node
    pub and-means : (i : ℕ) (kids : List ℕ) (c : ℕ) → slice_get graph.nodes i ≡ Some (record { what = And; kids = kids }) → least_at graph evidence costs i ≡ Some c
        → ((k d : ℕ) → In k kids → least_at graph evidence costs k ≡ Some d → NodeMeans k d (line k)) → NodeMeans i c (λ a. list_all (λ b. b) (map (λ k. line k a) kids))
    and-means i kids c e is are =
        let m = all_lines kids (apart-kids graph evidence costs ok i kids e) are c (sym (costs-at graph evidence costs ok i _ e) ∙ is) in
        record {
          sound = λ a b ag h few same. m.sound a b ag (sym (true-at graph evidence costs ok i _ e b) ∙ h)
              (omega (arith, few, faults_in-le kn price n (λ v. list_any (λ y. y) (map (M v) kids)) (λ v. M v i) b (λ v q. mention-at graph evidence costs ok i _ e v ∙ q)))
              (λ v p q. same v p (mention-at graph evidence costs ok i _ e v ∙ q));
          reached = λ a h.
              let g = m.reached a h in
              record {
                is = record { by = g.is.by; agrees = g.is.agrees; holds = true-at graph evidence costs ok i _ e g.is.by ∙ g.is.holds; cheap = g.is.cheap };
                same = λ v p q. g.same v p (sym (mention-at graph evidence costs ok i _ e v) ∙ q);
              };
        }

  -- ---- an Or node

  module _ (i : ℕ) (kids : List ℕ) (c : ℕ) (e : slice_get graph.nodes i ≡ Some (record { what = Or; kids = kids })) (is : least_at graph evidence costs i ≡ Some c) where
    -- what is below a child is below the Or node
    pub child-inside : (k : ℕ) → In k kids → (v : ℕ) → M v k ≡ true → M v i ≡ true
    child-inside k m v h = mention-at graph evidence costs ok i _ e v ∙ any-child (M v) kids k m h

    abbrev cheapest : List ℕ
    cheapest = cheapest_children (values (node_cost kn price) graph.nodes) c kids

    -- the lines of its cheapest children, each filled in
    pub or-means : (line : ℕ → Assignment → Bool)
        → ((k : ℕ) → In k kids → least_at graph evidence costs k ≡ Some c → Means (λ a. is_true graph.nodes k a) (λ v. mentions graph.nodes v i) c (line k))
        → NodeMeans i c (λ a. list_any (λ b. b) (map (λ k. line k a) (cheapest_children (values (node_cost (known_at evidence) (part_cost costs)) graph.nodes) c kids)))
    or-means line are = record {
      sound = λ a b ag h few same.
          let j = child-with (T b) kids (sym (true-at graph evidence costs ok i _ e b) ∙ h) in
          let cost_is = or-child graph evidence costs ok b ag i kids c e is few j.item j.is_in j.passes in
          any-child (λ k. line k a) cheapest j.item (cheapest-in (values (node_cost kn price) graph.nodes) c kids j.item j.is_in cost_is)
          ((are j.item j.is_in cost_is).sound a b ag j.passes few same);
      reached = λ a h.
          let j = child-with (λ k. line k a) cheapest h in
          let m = cheapest-is (values (node_cost kn price) graph.nodes) c kids j.item j.is_in in
          let g = (are j.item m.0 m.1).reached a j.passes in
          record {
            is = record { by = g.is.by; agrees = g.is.agrees; holds = true-at graph evidence costs ok i _ e g.is.by ∙ any-child (T g.is.by) kids j.item m.0 g.is.holds; cheap = g.is.cheap };
            same = g.same;
          };
    }
