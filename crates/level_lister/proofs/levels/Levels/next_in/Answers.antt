use Rattle.std.proofs.Common.{◌≡◌, ◌++◌, drop, length, get_or, sym, ◌∙◌, ap, arith, ℕ, List, ◌+◌, ◌≤◌, length-drop}
use Rattle.std.proofs.lemmas.Grind.{same_number_lists}
use Rattle.std.proofs.lemmas.List.{get_or-drop}
use Rattle.conditioner.specs.Evidence.{bits_of}
use Rattle.diagnosis_lister.specs.inner.Fixing.{fixed_bits}
use Rattle.level_lister.specs.Listing.{point_if}
use Rattle.level_lister.specs.Passes.{fixing_passes}
use Rattle.level_lister.specs.declared.levels.LevelStep.TheVariants.{Found}
use Rattle.level_lister.proofs.RisingCosts.{next-first, next-none, none-none, step-found}
use Rattle.level_lister.proofs.levels.Levels.next_in.Goals as goal

-- the words after a place are the same
same_behind : (n : ℕ) (xs ys : List ℕ) → length xs ≡ length ys → ((k : ℕ) → n ≤ k → get_or xs k 0 ≡ get_or ys k 0) → drop n xs ≡ drop n ys
same_behind n xs ys l e = same_number_lists (drop n xs) (drop n ys) (omega (arith, length-drop n xs, length-drop n ys)) (λ k h. get_or-drop n xs k 0 ∙ e (n + k) (omega arith) ∙ sym (get_or-drop n ys k 0))

pub returns-then-not-put_skips-clause-next : goal.returns-then-not-put_skips-clause-next
returns-then-not-put_skips-clause-next g c =
    let kept = c.args.self.now in
    let state = bits_of c.args.state.now in
    let point = point_if c.args.pointed state in
    λ i. get_or (sym (next-none kept.costs c.args.graph.now c.args.evidence.now kept.top point (none-none kept.costs c.args.graph.now c.args.evidence.now kept.top point (c.put_skips.ensures.none c.if-not-put_skips.true))) i) 0 state

pub returns-in-None-clause-next : goal.returns-in-None-clause-next
returns-in-None-clause-next g c =
    let state = bits_of c.args.state.now in
    λ i. get_or (sym (next-none c.args.self.now.costs c.args.graph.now c.args.evidence.now c.args.self.now.top (point_if c.args.pointed state) c.in-None.ensures.found.1) i) 0 state

pub returns-in-Some-clause-step : goal.returns-in-Some-clause-step
returns-in-Some-clause-step g c =
    let kept = c.args.self.now in
    let fixes = c.in-Some.ensures.found in
    ap Found (sym fixes.cost_is) ∙ step-found kept.costs c.args.graph.now c.args.evidence.now kept.top (point_if c.args.pointed (bits_of c.args.state.now)) (fixed_bits (length kept.costs) c.find.new.evidence)
    (c.put_skips.ensures.some c.if-not-put_skips.false) fixes.first

pub returns-in-Some-clause-next : goal.returns-in-Some-clause-next
returns-in-Some-clause-next g c =
    let state = bits_of c.args.state.now in
    c.read_state.ensures.bits ∙ ap (λ n. fixed_bits n c.find.new.evidence) c.requires.state
    ∙ next-first c.args.self.now.costs c.args.graph.now c.args.evidence.now c.args.self.now.top (point_if c.args.pointed state) (fixed_bits (length c.args.self.now.costs) c.find.new.evidence) state c.in-Some.ensures.found.first

pub returns-in-Some-clause-evidence : goal.returns-in-Some-clause-evidence
returns-in-Some-clause-evidence g c =
    let saved = c.keep.new.saved in
    let long : length c.keep.new.saved ≡ length c.split_at_mut-saved.result.0.now = omega arith in
    c.put_back.ensures
    ∙ (λ i. saved ++ same_behind (length c.keep.new.saved) c.find.new.evidence c.args.evidence.now c.find.auto.evidence (λ k g. c.in-Some.ensures.found.others k (omega (arith, g, long, c.split_at_mut-saved.ensures.front_len, ap length c.costs.ensures))) i)
    ∙ ap (λ n. saved ++ drop n c.args.evidence.now) long ∙ sym c.keep.ensures

pub returns-in-Some-clause-steps : goal.returns-in-Some-clause-steps
returns-in-Some-clause-steps g c fast search h =
    let same : bits_of c.read_state.new.state ≡ fixed_bits (length c.args.self.now.costs) c.find.new.evidence = c.read_state.ensures.bits ∙ ap (λ n. fixed_bits n c.find.new.evidence) c.requires.state in
    omega (arith, c.put_skips.ensures.steps, c.in-Some.ensures.steps (omega (arith, fast, c.len.ensures.len, ap length c.costs.ensures, c.split_at_mut-skips.ensures.back_len, c.split_at_mut-saved.ensures.back_len)) search h, ap (fixing_passes search) same)
