-- Marks that go down from the root.
use Rattle.std.proofs.Common.{◌≡◌, ℕ, ◌-◌, ◌<◌, ◌≤◌, true, cond, List, length, get_or, sym, ◌∙◌, arith, inl, inr, ⊎_elim}
use Rattle.std.specs.Prelude.{◌⊎◌}
use Rattle.std.proofs.lemmas.Bool.{and_from, leb-true, le-leb, ltb-true, lt-ltb, cases_eq}
use Rattle.state_rules.specs.Graphs.{Graph, node_at, IsGraph}
use Rattle.minimiser.proofs.Costs.{and_left}
use Rattle.minimiser.proofs.SpreadMarks.{child_before}
use Rattle.minimiser.specs.inner.Swept.{is_child}
use Rattle.fault_graph.specs.inner.Marks.{mark_of, HasMarkedParent, AreMarks}

-- a new mark is an old one, or that of a child that costs something, and no more
mark-new : (kids values : List ℕ) (cost j mark : ℕ) → mark_of kids values cost j mark ≡ 1
    → (mark ≡ 1) ⊎ ((is_child kids j ≡ true) × (0 < get_or values j 0) × (get_or values j 0 ≤ cost))
mark-new kids values cost j mark e = grind (arith, and_left, ltb-true, leb-true)

mark-kept : (kids values : List ℕ) (cost j mark : ℕ) → mark ≡ 1 → mark_of kids values cost j mark ≡ 1
mark-kept kids values cost j mark e = grind arith

mark-child : (kids values : List ℕ) (cost j mark : ℕ) → is_child kids j ≡ true → 0 < get_or values j 0 → get_or values j 0 ≤ cost → mark_of kids values cost j mark ≡ 1
mark-child kids values cost j mark i dear h = λ k. cond (and_from _ _ i (and_from _ _ (lt-ltb 0 (get_or values j 0) dear) (le-leb _ _ h)) k) 1 mark

module _ (graph : Graph) (ok : IsGraph graph) (values xs : List ℕ) (from : ℕ) (s : AreMarks graph.nodes values xs from) where
  abbrev at : ℕ
  at = from - 1

  -- a marked node marks its children that cost something and no more
  pub marks-met : (ys kids : List ℕ) → 0 < from → from ≤ length graph.nodes → length xs ≡ length graph.nodes → kids ≡ (node_at graph.nodes (from - 1)).kids → get_or xs (from - 1) 0 ≡ 1
      → ((j : ℕ) → j < length xs → get_or ys j 0 ≡ mark_of kids values (get_or values (from - 1) 0) j (get_or xs j 0)) → AreMarks graph.nodes values ys (from - 1)
  marks-met ys kids some few long same m spreads = record {
    root = kept (length graph.nodes - 1) (omega arith) s.root;
    dear = λ k h e. ⊎_elim (λ p. s.dear k h p) (λ p. p.1) (new k h e);
    low = λ k h e. ⊎_elim (λ p. s.low k h p) (λ p. omega (arith, p.2, s.low at lt m)) (new k h e);
    down = λ k j h g e i d c. grind (arith, cases_eq k at, s.down k j, child_before graph k j ok, old k h, kept j, spread j, mark-child (node_at graph.nodes at).kids values (get_or values at 0) j (get_or xs j 0));
    up = λ k h e. ⊎_elim
        (λ p. ⊎_elim (λ r. inl r) (λ (x : HasMarkedParent graph.nodes values xs k). inr (record { parent = x.parent; within = x.within; marked = kept x.parent x.within x.marked; child = x.child; cheap = x.cheap })) (s.up k h p))
        (λ p. inr (record { parent = at; within = lt; marked = kept at lt m; child = p.0; cheap = p.2 }))
        (new k h e);
  } where
    lt : at < length graph.nodes
    lt = omega arith

    spread : (j : ℕ) → j < length graph.nodes → get_or ys j 0 ≡ mark_of (node_at graph.nodes at).kids values (get_or values at 0) j (get_or xs j 0)
    spread j h = rw (← same) (spreads j (omega (arith, long)))

    kept : (k : ℕ) → k < length graph.nodes → get_or xs k 0 ≡ 1 → get_or ys k 0 ≡ 1
    kept k h e = spread k h ∙ mark-kept (node_at graph.nodes at).kids values (get_or values at 0) k (get_or xs k 0) e

    new : (k : ℕ) → k < length graph.nodes → get_or ys k 0 ≡ 1 → (get_or xs k 0 ≡ 1) ⊎ ((is_child (node_at graph.nodes at).kids k ≡ true) × (0 < get_or values k 0) × (get_or values k 0 ≤ get_or values at 0))
    new k h e = mark-new (node_at graph.nodes at).kids values (get_or values at 0) k (get_or xs k 0) (sym (spread k h) ∙ e)

    old : (k : ℕ) → at ≤ k → k < length graph.nodes → get_or ys k 0 ≡ 1 → get_or xs k 0 ≡ 1
    old k h g e = ⊎_elim (λ p. p) (λ p. absurd (omega (arith, child_before graph at k ok lt p.0))) (new k g e)
