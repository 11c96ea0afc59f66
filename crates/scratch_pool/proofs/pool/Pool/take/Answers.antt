use Rattle.std.proofs.Common.{rules, ℕ, sym, subst}
use Rattle.scratch_pool.specs.Pools.{Blocks, IsOut, IsFree, IsSound}
use Rattle.scratch_pool.proofs.LentWords.{taken-zeroed, taken-others}
use Rattle.scratch_pool.proofs.pool.Pool.take.Goals as goal

pub returns-clause-zeros : goal.returns-clause-zeros
returns-clause-zeros c =
    let pool : Blocks = record { size = c.self.inside.size; words = c.self.inside.words.items; out = c.self.inside.out.items } in
    let number : ℕ = c.in_ok-number.number in
    let sound : IsSound pool = search rules in
    let free : IsFree pool number = search rules in
    rw (c.zero.ensures.words, ← c.self.view_is) (taken-zeroed pool sound number free.0)

pub returns-clause-others : goal.returns-clause-others
returns-clause-others c = λ other out.
    let pool : Blocks = record { size = c.self.inside.size; words = c.self.inside.words.items; out = c.self.inside.out.items } in
    let number : ℕ = c.in_ok-number.number in
    let sound : IsSound pool = search rules in
    let free : IsFree pool number = search rules in
    let was_out : IsOut pool other = subst (λ (p : Blocks). IsOut p other) (sym c.self.view_is) out in
    rw (c.zero.ensures.words, ← c.self.view_is) (taken-others pool sound number other free was_out)
