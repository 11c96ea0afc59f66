use Rattle.std.proofs.Common.{◌≡◌, ℕ, false, List, get_or, All, ap, sym, ◌∙◌, subst, arith, ⊎_elim}
use Rattle.std.proofs.lemmas.Bool.{cases_lt}
use Rattle.std.proofs.lemmas.List.Elements.{All-from_get_or}
use Rattle.part_sets.specs.Numbers.{has_number, set_at}
use Rattle.level_lister.specs.Listing.{cost_words}
use Rattle.level_lister.proofs.fault_pass.FaultPass.has_faulty_child.Goals as goal

pub loop-child-preserved : goal.loop-child-preserved
loop-child-preserved c j n lt = ⊎_elim
    (λ before. c.loop-child.invariant j n before)
    (λ here.
    let last : j ≡ c.loop-child.child-index = omega arith in
    subst (λ set. has_number set n ≡ false) (c.set_at.ensures.set ∙ ap (λ size. set_at c.args.earlier.now (get_or c.kids-child-items.result.now c.loop-child.child-index 0) size) c.size-size.ensures
    ∙ ap (λ k. set_at c.args.earlier.now (get_or c.kids-child-items.result.now k 0) (cost_words c.args.self.now.levels.now.top)) (sym last)) (c.is_empty.ensures c.if-not-is_empty.false n))
    (cases_lt j c.loop-child.child-index)

pub returns : goal.returns
returns c e =
    let Empty = λ (k : ℕ). (n : ℕ) → has_number (set_at c.args.earlier.now k (cost_words c.args.self.now.levels.now.top)) n ≡ false in
    subst (λ (ks : List ℕ). All Empty ks) c.kids-child-items.ensures.kids (All-from_get_or Empty c.kids-child-items.result.now 0 (λ j lt n. c.loop-child.invariant j n (omega arith)))
