-- The bits that runs pick.
use Rattle.std.proofs.Common.{◌≡◌, ℕ, zero, suc, ◌+◌, ◌<◌, ◌≤◌, Bool, true, false, List, [], ◌∷◌, ◌++◌, length, drop, get_or, replicate, refl, ap, sym, ◌∙◌, arith}
use Rattle.std.proofs.lemmas.Bool.Decides.{nat_tests}
use Rattle.std.proofs.lemmas.List.{length-append, length-replicate, replicate-append-replicate, append_assoc, append-nil, drop-drop, drop_more, drop_all}
use Rattle.std.proofs.Math.Seq.{drop-nil}
use Rattle.forest_states.specs.declared.picks.Run.{Run}
use Rattle.forest_states.specs.inner.BitLists.{other_bits, copied}
use Rattle.forest_states.specs.inner.TransitionTables.{flag_run, flags_in}
use Rattle.forest_states.specs.inner.Descents.{picked}

abbrev pub none : Run
none = record { others = 0; count = 0 }

-- ---- more flags

pub flags-more : (runs : List Run) (last next : Run) (more : List Bool) → flag_run next ≡ flag_run last ++ more → flags_in runs next ≡ flags_in runs last ++ more
flags-more [] last next more e = e
flags-more (r ∷ runs) last next more e = ap (λ fs. flag_run r ++ fs) (flags-more runs last next more e) ∙ sym (append_assoc (flag_run r) (flags_in runs last) more)

pub flags-picked : (runs : List Run) (n m c : ℕ) → flags_in runs (record { others = n; count = m + c }) ≡ flags_in runs (record { others = n; count = m }) ++ replicate c true
flags-picked runs n m c = flags-more runs _ _ (replicate c true) (ap (λ fs. replicate n false ++ fs) (sym (replicate-append-replicate m c true)) ∙ sym (append_assoc (replicate n false) (replicate m true) (replicate c true)))

pub flags-other : (runs : List Run) (n m c : ℕ) → m ≡ 0 → flags_in runs (record { others = n + c; count = m }) ≡ flags_in runs (record { others = n; count = m }) ++ replicate c false
flags-other runs n (suc m) c none = absurd (omega (arith, none))
flags-other runs n zero c none = flags-more runs _ _ (replicate c false) (append-nil (replicate (n + c) false) ∙ sym (replicate-append-replicate n c false) ∙ ap (λ fs. fs ++ replicate c false) (sym (append-nil (replicate n false))))

pub flags-next : (runs : List Run) (last : Run) (c : ℕ) → flags_in (runs ++ last ∷ []) (record { others = c; count = 0 }) ≡ flags_in runs last ++ replicate c false
flags-next [] last c = ap (λ fs. flag_run last ++ fs) (append-nil (replicate c false))
flags-next (r ∷ runs) last c = ap (λ fs. flag_run r ++ fs) (flags-next runs last c) ∙ sym (append_assoc (flag_run r) (flags_in runs last) (replicate c false))

pub length-run : (r : Run) (flags : List Bool) → length (flag_run r ++ flags) ≡ r.others + r.count + length flags
length-run r flags = omega (arith, length-append (flag_run r) flags, length-append (replicate r.others false) (replicate r.count true), length-replicate r.others false, length-replicate r.count true)

pub length-last : (runs : List Run) (n m : ℕ) → n + m ≤ length (flags_in runs (record { others = n; count = m }))
length-last [] n m = omega (arith, length-append (replicate n false) (replicate m true), length-replicate n false, length-replicate m true)
length-last (r ∷ runs) n m = omega (arith, length-run r (flags_in runs (record { others = n; count = m })), length-last runs n m)

-- ---- what is picked

picked-others : (n : ℕ) (flags state : List Bool) → picked (replicate n false ++ flags) state ≡ picked flags (drop n state)
picked-others zero flags state = refl
picked-others (suc n) flags state = grind (arith, picked-others n flags (other_bits state), drop-nil {A = Bool} n)

picked-count : (n : ℕ) (flags state : List Bool) → picked (replicate n true ++ flags) state ≡ copied n state ++ picked flags (drop n state)
picked-count zero flags state = refl
picked-count (suc n) flags state = grind (arith, picked-count n flags (other_bits state), drop-nil {A = Bool} n)

picked-run : (r : Run) (flags state : List Bool) → picked (flag_run r ++ flags) state ≡ copied r.count (drop r.others state) ++ picked flags (drop (r.others + r.count) state)
picked-run r flags state = grind (arith, nat_tests, append_assoc, picked-others, picked-count, drop-drop)

pub picked-end : (r : Run) (state : List Bool) → picked (flag_run r) state ≡ copied r.count (drop r.others state)
picked-end r state = ap (λ fs. picked fs state) (sym (append-nil (flag_run r))) ∙ picked-run r [] state ∙ append-nil (copied r.count (drop r.others state))

pub picked-last : (r : Run) (state : List Bool) (at : ℕ) → picked (flag_run r) (drop at state) ≡ copied r.count (drop (at + r.others) state)
picked-last r state at = picked-end r (drop at state) ∙ ap (copied r.count) (drop-drop r.others at state)

pub length-picked : (flags state : List Bool) → length (picked flags state) ≤ length flags
length-picked [] state = omega arith
length-picked (true ∷ flags) state = omega (arith, length-picked flags (other_bits state))
length-picked (false ∷ flags) state = omega (arith, length-picked flags (other_bits state))

-- after the last run but one
pub flags-rest : (runs : List Run) (last : Run) (k : ℕ) → length runs ≤ k → last.others + last.count ≤ length (flags_in (drop k runs) last)
flags-rest runs last k all = omega (arith, ap (λ rs. length (flags_in rs last)) (drop_all k runs all), length-last [] last.others last.count)

-- the next run
module _ (runs : List Run) (last : Run) (k : ℕ) (r : Run) (low : k < length runs) where
  next : flags_in (drop k runs) last ≡ flag_run (get_or runs k r) ++ flags_in (drop (k + 1) runs) last
  next = ap (λ rs. flags_in rs last) (drop_more runs k r low)

  pub flags-on : length (flags_in (drop k runs) last) ≡ (get_or runs k r).others + (get_or runs k r).count + length (flags_in (drop (k + 1) runs) last)
  flags-on = ap length next ∙ length-run (get_or runs k r) (flags_in (drop (k + 1) runs) last)

  pub picked-next : (bits state : List Bool) → bits ++ picked (flags_in (drop k runs) last) state
      ≡ (bits ++ copied (get_or runs k r).count (drop (get_or runs k r).others state)) ++ picked (flags_in (drop (k + 1) runs) last) (drop ((get_or runs k r).others + (get_or runs k r).count) state)
  picked-next bits state = grind (arith, next, picked-run, append_assoc)

  pub picked-on : (at : ℕ) (bits state : List Bool) → bits ++ picked (flags_in (drop k runs) last) (drop at state)
      ≡ (bits ++ copied (get_or runs k r).count (drop (at + (get_or runs k r).others) state))
      ++ picked (flags_in (drop (k + 1) runs) last) (drop (at + (get_or runs k r).others + (get_or runs k r).count) state)
  picked-on at bits state = grind (arith, nat_tests, next, picked-run, drop-drop, append_assoc)
