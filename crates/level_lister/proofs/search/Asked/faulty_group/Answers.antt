use Rattle.std.proofs.Common.{◌<◌, subst, arith, ◌≡◌, ℕ, ◌+◌, ◌/◌, ◌≤◌, max}
use Rattle.std.proofs.lemmas.Nat.{div_below}
use Rattle.level_lister.specs.Passes.{groups_per_pass}
use Rattle.level_lister.proofs.search.Asked.faulty_group.Goals as goal

-- if costs of 32 and more are listed, a pass has one group
told_sets : (top : ℕ) → 32 ≤ top → groups_per_pass top ≡ 1
told_sets top h = by_count (32 / (top + 1)) (div_below 32 (top + 1) 1 (omega arith) (omega arith)) where
  by_count : (q : ℕ) → q < 1 → max 1 q ≡ 1
  by_count q e = omega arith

pub returns-else-top-lt32-clause-found : goal.returns-else-top-lt32-clause-found
returns-else-top-lt32-clause-found c lt =
    c.faulty_group_by_sets.ensures.found (subst (λ n. c.faulty_group_by_sets.result < n) (told_sets c.args.self.now.levels.now.top (omega (arith, c.if-top-lt32.false, c.top.ensures))) lt)
