-- The node that replaces another, from those that replace its children.
use Rattle.std.proofs.Common.{◌≡◌, ℕ, ◌+◌, ◌<◌, ◌≤◌, Bool, true, false, cond, ◌&&◌, List, [], ◌∷◌, map, length, Option, Some, refl, ap, sym, ◌∙◌, subst, arith, inl, inr, ⊎_elim}
use Rattle.std.specs.Prelude.{◌⊎◌, slice_get}
use Rattle.std.specs.List.{list_all, list_any, filter}
use Rattle.std.proofs.lemmas.Bool.{and_from, or_cases, or_left, or_right}
use Rattle.std.proofs.lemmas.Option.{same_Some}
use Rattle.state_rules.specs.Bits.{same_bit}
use Rattle.state_rules.specs.Assignments.{Assignment}
use Rattle.state_rules.proofs.Members.{In, AtMost}
use Rattle.state_rules.specs.declared.nodes.NodeKind.{NodeKind}
use Rattle.state_rules.specs.declared.nodes.NodeKind.TheVariants.{Literal, And, Or}
use Rattle.state_rules.specs.Graphs.{at_most_one, Graph, truth_by, is_true, mentions, IsGraph}
use Rattle.state_rules.proofs.Children.{at_most_one-tail, not_both}
use Rattle.conditioner.specs.Evidence.{leaf_of}
use Rattle.minimiser.specs.Costs.{part_cost, known_at, sum_costs, literal_cost, least_at}
use Rattle.minimiser.proofs.Costs.{IsCost, as_cost, from_add, true_is}
use Rattle.minimiser.proofs.LeastOfModels.{part_cost-none}
use Rattle.minimiser.proofs.Derivations.{is_cost, true-at, mention-at, costs-at, apart-kids, kids-cost, Apart, apart-tail, apart-both, cheapest-child, sum-child}
use Rattle.fault_graph.proofs.LeastNodes.{StandsFor, StandsFor-same, stands-free, stands-literal, stands-never, stands-or, stands-other, stands-and}

-- ---- the variables of the children that stay

module _ (keep : ℕ → Bool) (place : ℕ → ℕ) (small large : ℕ → Bool) where
  abbrev Narrower : List ℕ → Type 0
  Narrower kids = (j : ℕ) → In j kids → keep j ≡ true → small (place j) ≡ true → large j ≡ true

  pub narrower-any : (kids : List ℕ) → Narrower kids → list_any (λ b. b) (map small (map place (filter keep kids))) ≡ true → list_any (λ b. b) (map large kids) ≡ true
  narrower-any [] h e = e
  narrower-any (j ∷ kids) h e = grind (arith, keep, small, place, large, or_left, or_right, or_cases, narrower-any kids)

  pub narrower-apart : (kids : List ℕ) → Narrower kids → at_most_one (map large kids) ≡ true → at_most_one (map small (map place (filter keep kids))) ≡ true
  narrower-apart [] h e = refl
  narrower-apart (j ∷ kids) h e = grind (arith, keep, small, place, large, and_from, not_both, at_most_one-tail, narrower-any kids, narrower-apart kids)

-- ---- their truth

module _ (graph : Graph) (evidence costs : List ℕ) (ok : IsGraph graph) (keep : ℕ → Bool) (place : ℕ → ℕ) (U : ℕ → Assignment → Bool) where
  abbrev kn : ℕ → Option Bool
  kn v = known_at evidence v

  abbrev price : ℕ → ℕ
  price v = part_cost costs v

  abbrev n : ℕ
  n = length costs

  abbrev T : Assignment → ℕ → Bool
  T a k = is_true graph.nodes k a

  abbrev M : ℕ → ℕ → Bool
  M v k = mentions graph.nodes v k

  abbrev pub StandsAt : ℕ → ℕ → (Assignment → Bool) → Type 0
  StandsAt k c u = StandsFor (known_at evidence) (part_cost costs) (length costs) (λ a. is_true graph.nodes k a) (λ v. mentions graph.nodes v k) c u

  -- a child that stays costs no more, and has a replacement
  pub record Stays (c j : ℕ) : Type 0 where
    pub cost : ℕ
    pub is : least_at graph evidence costs j ≡ Some cost
    pub cheap : cost ≤ c
    pub stands : StandsAt j cost (U (place j))

  pub record ChildrenStand (kids : List ℕ) (c : ℕ) : Type 0 where
    pub stay : (j : ℕ) → In j kids → keep j ≡ true → Stays c j
    pub rest : (j d : ℕ) → In j kids → keep j ≡ false → least_at graph evidence costs j ≡ Some d → (d ≡ 0) ⊎ (c < d)

  tail : (j c : ℕ) (kids : List ℕ) → ChildrenStand (j ∷ kids) c → ChildrenStand kids c
  tail j c kids h = record { stay = λ i m. h.stay i (inr m); rest = λ i d m. h.rest i d (inr m) }

  costs-of : (j d : ℕ) → least_at graph evidence costs j ≡ Some d → IsCost kn price n (λ a. T a j) (λ v. M v j) (Some d)
  costs-of j d e = subst (λ o. IsCost kn price n (λ a. T a j) (λ v. M v j) o) e (is_cost graph evidence costs ok j)

  -- each child of an And node costs no more than it
  ands : (kids : List ℕ) (c : ℕ) → Apart graph evidence costs ok kids → ChildrenStand kids c → ((j d : ℕ) → In j kids → least_at graph evidence costs j ≡ Some d → d ≤ c) → (s : ℕ) → sum_costs (map (least_at graph evidence costs) kids) ≡ Some s
      → StandsFor kn price n (λ a. list_all (λ b. b) (map (T a) kids)) (λ v. list_any (λ b. b) (map (M v) kids)) s (λ a. list_all (λ b. b) (map (λ p. U p a) (map place (filter keep kids))))
  ands [] c apart h low s e = subst (λ m. StandsFor kn price n (λ a. true) (λ v. false) m (λ a. true)) (same_Some 0 s e) (stands-free kn price n (part_cost-none costs) (λ a. true) (λ v. false) (as_cost kn price n _ _ _ (true_is kn price n)))
  ands (j ∷ kids) c apart h low s e =
      let sum = from_add (least_at graph evidence costs j) (sum_costs (map (least_at graph evidence costs) kids)) s e in
      let later = apart-tail graph evidence costs ok j kids apart in
      let more = ands kids c later (tail j c kids h) (λ i d m. low i d (inr m)) sum.right sum.right_is in
      by_keep sum.left sum.right sum.left_is sum.right_is sum.sum_is more (keep j) refl where
        by_keep : (l r : ℕ) → least_at graph evidence costs j ≡ Some l → sum_costs (map (least_at graph evidence costs) kids) ≡ Some r → l + r ≡ s
            → StandsFor kn price n (λ a. list_all (λ b. b) (map (T a) kids)) (λ v. list_any (λ b. b) (map (M v) kids)) r (λ a. list_all (λ b. b) (map (λ p. U p a) (map place (filter keep kids))))
            → (b : Bool) → keep j ≡ b
            → StandsFor kn price n (λ a. list_all (λ b. b) (map (T a) (j ∷ kids))) (λ v. list_any (λ b. b) (map (M v) (j ∷ kids))) s (λ a. list_all (λ b. b) (map (λ p. U p a) (map place (cond b (j ∷ filter keep kids) (filter keep kids)))))
        by_keep l r el er sum more true k =
            let x = h.stay j (inl refl) k in
            let same : x.cost ≡ l = same_Some x.cost l (sym x.is ∙ el) in
            subst (λ m. StandsFor kn price n (λ a. list_all (λ b. b) (map (T a) (j ∷ kids))) (λ v. list_any (λ b. b) (map (M v) (j ∷ kids))) m (λ a. U (place j) a && list_all (λ b. b) (map (λ p. U p a) (map place (filter keep kids))))) sum
            (stands-and kn price n (λ a. T a j) (λ a. list_all (λ b. b) (map (T a) kids)) (λ v. M v j) (λ v. list_any (λ b. b) (map (M v) kids)) l r (U (place j)) _ (apart-both graph evidence costs ok j kids apart) (costs-of j l el)
            (subst (λ o. IsCost kn price n (λ a. list_all (λ b. b) (map (T a) kids)) (λ v. list_any (λ b. b) (map (M v) kids)) o) er (kids-cost graph evidence costs ok kids (apart-tail graph evidence costs ok j kids apart)))
            (subst (λ m. StandsAt j m (U (place j))) same x.stands) more)
        by_keep l r el er sum more false k =
            let free : l ≡ 0 = ⊎_elim (λ z. z) (λ q. absurd (omega (arith, q, low j l (inl refl) el))) (h.rest j l (inl refl) k el) in
            subst (λ m. StandsFor kn price n (λ a. list_all (λ b. b) (map (T a) (j ∷ kids))) (λ v. list_any (λ b. b) (map (M v) (j ∷ kids))) m (λ a. list_all (λ b. b) (map (λ p. U p a) (map place (filter keep kids))))) sum
            (stands-and kn price n (λ a. T a j) (λ a. list_all (λ b. b) (map (T a) kids)) (λ v. M v j) (λ v. list_any (λ b. b) (map (M v) kids)) l r (λ a. true) _ (apart-both graph evidence costs ok j kids apart) (costs-of j l el)
            (subst (λ o. IsCost kn price n (λ a. list_all (λ b. b) (map (T a) kids)) (λ v. list_any (λ b. b) (map (M v) kids)) o) er (kids-cost graph evidence costs ok kids (apart-tail graph evidence costs ok j kids apart)))
            (subst (λ m. StandsAt j m (λ a. true)) (sym free) (stands-free kn price n (part_cost-none costs) (λ a. T a j) (λ v. M v j) (costs-of j 0 (el ∙ ap Some free)))) more)

  -- each child of an Or node costs at least as much as it
  ors : (kids : List ℕ) (c : ℕ) → 0 < c → ChildrenStand kids c → ((j d : ℕ) → In j kids → least_at graph evidence costs j ≡ Some d → c ≤ d)
      → StandsFor kn price n (λ a. list_any (λ b. b) (map (T a) kids)) (λ v. list_any (λ b. b) (map (M v) kids)) c (λ a. list_any (λ b. b) (map (λ p. U p a) (map place (filter keep kids))))
  ors [] c dear h high = stands-never kn price n c
  ors (j ∷ kids) c dear h high = by_keep (ors kids c dear (tail j c kids h) (λ i d m. high i d (inr m))) (keep j) refl where
    by_keep : StandsFor kn price n (λ a. list_any (λ b. b) (map (T a) kids)) (λ v. list_any (λ b. b) (map (M v) kids)) c (λ a. list_any (λ b. b) (map (λ p. U p a) (map place (filter keep kids))))
        → (b : Bool) → keep j ≡ b
        → StandsFor kn price n (λ a. list_any (λ b. b) (map (T a) (j ∷ kids))) (λ v. list_any (λ b. b) (map (M v) (j ∷ kids))) c (λ a. list_any (λ b. b) (map (λ p. U p a) (map place (cond b (j ∷ filter keep kids) (filter keep kids)))))
    by_keep more true k =
        let x = h.stay j (inl refl) k in
        let same : x.cost ≡ c = omega (arith, x.cheap, high j x.cost (inl refl) x.is) in
        stands-or kn price n (λ a. T a j) (λ a. list_any (λ b. b) (map (T a) kids)) (λ v. M v j) (λ v. list_any (λ b. b) (map (M v) kids)) c (U (place j)) _ (subst (λ m. StandsAt j m (U (place j))) same x.stands) more
    by_keep more false k =
        stands-other kn price n (λ a. T a j) (λ a. list_any (λ b. b) (map (T a) kids)) (λ v. M v j) (λ v. list_any (λ b. b) (map (M v) kids)) c (least_at graph evidence costs j) _ (is_cost graph evidence costs ok j)
        (λ d e. ⊎_elim (λ z. absurd (omega (arith, z, dear, high j d (inl refl) e))) (λ q. q) (h.rest j d (inl refl) k e)) more

  -- a literal that costs something says that an open part is faulty
  says : (k : Option Bool) (w c : ℕ) (positive : Bool) → literal_cost (leaf_of positive k) w positive ≡ Some c → 0 < c → (positive ≡ false) × (w ≡ c)
  says k w c positive e dear = grind arith

  -- The replacement of a node that costs something has the same kind, over the children that stay.
  pub node-stands : (k c : ℕ) (what : NodeKind) (kids : List ℕ) → slice_get graph.nodes k ≡ Some (record { what = what; kids = kids }) → least_at graph evidence costs k ≡ Some c → 0 < c → ChildrenStand kids c
      → StandsAt k c (λ a. truth_by a what (map (λ p. U p a) (map place (filter keep kids))))
  unfolding Apart
  node-stands k c (Literal positive var) kids e is dear h =
      let s = says (kn var) (price var) c positive (sym (costs-at graph evidence costs ok k _ e) ∙ is) dear in
      StandsFor-same kn price n (λ a. true-at graph evidence costs ok k _ e a ∙ ap (λ p. same_bit p (a var)) s.0) (λ v. mention-at graph evidence costs ok k _ e v) s.1 (λ a. ap (λ p. same_bit p (a var)) s.0) (stands-literal kn price n (part_cost-none costs) var)
  node-stands k c And kids e is dear h =
      let sum = sym (costs-at graph evidence costs ok k _ e) ∙ is in
      StandsFor-same kn price n (λ a. true-at graph evidence costs ok k _ e a) (λ v. mention-at graph evidence costs ok k _ e v) refl (λ a. refl)
      (ands kids c (apart-kids graph evidence costs ok k kids e) h (λ j d m f. let x = sum-child (least_at graph evidence costs) kids c j sum m in omega (arith, x.2, same_Some x.0 d (sym x.1 ∙ f))) c sum)
  node-stands k c Or kids e is dear h =
      let least = sym (costs-at graph evidence costs ok k _ e) ∙ is in
      StandsFor-same kn price n (λ a. true-at graph evidence costs ok k _ e a) (λ v. mention-at graph evidence costs ok k _ e v) refl (λ a. refl)
      (ors kids c dear h (λ j d m f. subst (λ o. AtMost o d) least (cheapest-child (least_at graph evidence costs) kids j d m f)))
