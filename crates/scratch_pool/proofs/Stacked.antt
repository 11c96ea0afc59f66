-- Runs that are stacked.
use Rattle.std.proofs.Common.{◌≡◌, ℕ, ◌+◌, ◌≤◌, ◌<◌, zero, suc, List, [], ◌∷◌, ◌++◌, length, sym, ◌∙◌, ap, arith, inl, inr}
use Rattle.std.specs.Prelude.{◌⊎◌, ◌≢◌, slice_index_or, Contains}
use Rattle.std.proofs.lemmas.List.Sums.{sum_by-cons}
use Rattle.scratch_pool.specs.declared.region.Span.{Span}
use Rattle.scratch_pool.specs.Regions.{words_used, AreStacked}
use Rattle.scratch_pool.proofs.Written.{Apart}

used-cons : (run : Span) (runs : List Span) → words_used (run ∷ runs) ≡ run.len + words_used runs
used-cons run runs = sum_by-cons (λ (r : Span). r.len) run runs

pub used-append : (runs : List Span) (run : Span) → words_used (runs ++ run ∷ []) ≡ words_used runs + run.len
used-append [] run = omega arith
used-append (r ∷ runs) run = grind (arith, used-cons, used-append runs run)

pub stacked-append : (start : ℕ) (runs : List Span) (run : Span) → AreStacked start runs → run.start ≡ start + words_used runs → 1 ≤ run.len → AreStacked start (runs ++ run ∷ [])
stacked-append start [] run h e l = (omega (arith, e), l, tt)
stacked-append start (r ∷ runs) run h e l = (h.0, h.1, stacked-append (start + r.len) runs run h.2 (let a = used-cons r runs in omega (arith, e, a)) l)

pub stacked-front : (start : ℕ) (runs : List Span) (run : Span) → AreStacked start (runs ++ run ∷ []) → AreStacked start runs × (run.start ≡ start + words_used runs)
stacked-front start [] run h = (tt, let e = h.0 in omega (arith, e))
stacked-front start (r ∷ runs) run h = let rest = stacked-front (start + r.len) runs run h.2 in ((h.0, h.1, rest.0), let e = rest.1 in let a = used-cons r runs in omega (arith, e, a))

-- a run is in the stack
abbrev pub Holds : List Span → Span → Type 0
Holds [] run = ⊥
Holds (r ∷ runs) run = (r ≡ run) ⊎ Holds runs run

pub holds_at : (runs : List Span) (run : Span) (k : ℕ) → k < length runs → slice_index_or runs k run ≡ run → Holds runs run
holds_at [] run k l e = absurd (omega (arith, l))
holds_at (r ∷ runs) run zero l e = inl e
holds_at (r ∷ runs) run (suc k) l e = inr (holds_at runs run k (omega (arith, l)) e)

-- a run that is held lies within the stack
pub within : (start : ℕ) (runs : List Span) (run : Span) → AreStacked start runs → Holds runs run → (start ≤ run.start) × (run.start + run.len ≤ start + words_used runs) × (1 ≤ run.len)
within start (r ∷ runs) run h (inl e) = grind (arith, used-cons)
within start (r ∷ runs) run h (inr later) = grind (arith, used-cons, within (start + r.len) runs run h.2 later)
within start [] run h held = absurd held

-- two runs are the same or apart
pub runs-apart : (start : ℕ) (runs : List Span) (one other : Span) → AreStacked start runs → Holds runs one → Holds runs other → (one ≡ other) ⊎ Apart one.start one.len other.start other.len
runs-apart start (r ∷ runs) one other h (inl e) (inl d) = inl (sym e ∙ d)
runs-apart start (r ∷ runs) one other h (inl e) (inr k) =
    let is = h.0 in
    let same : r.start ≡ one.start = ap (λ (s : Span). s.start) e in
    let same_len : r.len ≡ one.len = ap (λ (s : Span). s.len) e in
    let lies = (within (start + r.len) runs other h.2 k).0 in
    inr (inl (omega (arith, is, same, same_len, lies)))
runs-apart start (r ∷ runs) one other h (inr k) (inl e) =
    let is = h.0 in
    let same : r.start ≡ other.start = ap (λ (s : Span). s.start) e in
    let same_len : r.len ≡ other.len = ap (λ (s : Span). s.len) e in
    let lies = (within (start + r.len) runs one h.2 k).0 in
    inr (inr (omega (arith, is, same, same_len, lies)))
runs-apart start (r ∷ runs) one other h (inr j) (inr k) = runs-apart (start + r.len) runs one other h.2 j k
runs-apart start [] one other h j k = absurd j

-- a run of a region lies within its words
pub contained : (runs : List Span) (run : Span) → AreStacked 0 runs → Contains runs run → run.start + run.len ≤ words_used runs
contained runs run h k = let rest = (within 0 runs run h (holds_at runs run k.0 k.1 k.2)).1 in omega (arith, rest)

-- two runs of a region are the same or apart
pub contained-apart : (runs : List Span) (one other : Span) → AreStacked 0 runs → Contains runs one → Contains runs other → other ≢ one → Apart one.start one.len other.start other.len
contained-apart runs one other h j k ne = grind (arith, runs-apart, holds_at)
